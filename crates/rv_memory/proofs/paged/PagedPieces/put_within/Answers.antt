use Rattle.std.proofs.Common.{◌≡◌, ◌%◌, ◌^◌, ◌∙◌, ℕ, true, false, map, ap, sym, subst, MatchBool, arith}
use Rattle.rv_isa_laws.specs.Memory.{Mem, Write, may, with_bytes}
use Rattle.rv_image.specs.SegmentView.{segment_of}
use Rattle.rv_memory.specs.Flat.{memory_of}
use Rattle.rv_memory.specs.Unmade.{with_unmade}
use Rattle.rv_memory.specs.HeldPages.{held_pages}
use Rattle.rv_memory.proofs.MemoryLemmas.{may-none}
use Rattle.rv_memory.proofs.UnmadeLemmas.{set-lifts, free-right}
use Rattle.rv_memory.proofs.KnownLemmas.{known-still, unmade-still}
use Rattle.rv_memory.proofs.paged.PagedPieces.put_within.Goals as goal

pub invariant_of-self : goal.invariant_of-self
invariant_of-self c = record {
  known = known-still _ _ _ _ c.put_from.ensures.alike c.make.new.self.known;
  unmade = unmade-still _ _ _ _ c.put_from.ensures.alike c.make.new.self.unmade;
  has_room = c.make.new.self.has_room;
}

pub returns-in-Some-clause-put : goal.returns-in-Some-clause-put
returns-in-Some-clause-put c =
    let made = c.make.new.self in
    let m : Mem = memory_of (map segment_of made.flat.segments.items) in
    let n : Mem = memory_of (map segment_of c.put_from.new.self.segments.items) in
    subst (λ (old : Mem). MatchBool c.put_from.result (with_unmade made.base n ≡ with_bytes old c.args.address c.args.bytes.now) (with_unmade made.base n ≡ old))
    c.make.ensures.memory (set-lifts c.put_from.result m n made.base c.args.address c.args.bytes.now c.put_from.ensures.put)

pub returns-in-None-clause-one : goal.returns-in-None-clause-one
returns-in-None-clause-one c = λ one right.
    let made = c.make.new.self in
    let a = c.args.address in
    let m : Mem = held_pages made in
    let wraps : a % 2 ^ 64 ≡ a = omega arith in
    let lacks : m.has (a % 2 ^ 64) Write ≡ false =
    ap (λ (x : ℕ). m.has x Write) wraps ∙ free-right (map segment_of made.flat.segments.items) made.base a Write c.make.ensures.made c.in-None.ensures.found in
    let no = may-none m a 1 Write (omega arith) lacks in
    let did : may m a 1 Write ≡ true = subst (λ (k : Mem). may k a 1 Write ≡ true) (sym c.make.ensures.memory) right in
    absurd (cc)
