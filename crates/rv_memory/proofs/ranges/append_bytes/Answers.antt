use Rattle.std.proofs.Common.{◌≡◌, ◌+◌, ◌%◌, ◌^◌, ◌<◌, ◌≤◌, ◌++◌, ◌∙◌, ℕ, List, [], ◌∷◌, inl, sym, ap, length, take, append_assoc, rules, arith}
use Rattle.std.proofs.lemmas.Grind.{common_steps}
use Rattle.rv_isa_laws.specs.Memory.{Mem, Read, bytes_at, number_at}
use Rattle.rv_memory.proofs.MemoryLemmas.{may-at, bytes-more, bytes-take, loaded-byte}
use Rattle.rv_memory.proofs.ranges.append_bytes.Goals as goal

pub returns-then-count-piece : goal.returns-then-count-piece
returns-then-count-piece g c =
    let m : Mem = g.M.Memory.mem c.args.memory.now in
    let within : c.args.count ≤ length c.piece-piece.result.now = omega (arith, c.if-count-piece.true) in
    let bytes : c.split_at.result.0.now ≡ bytes_at m c.args.address c.args.count =
    c.split_at.ensures.front ∙ ap (λ (bs : List ℕ). take c.args.count bs) (sym c.piece-piece.ensures)
    ∙ sym (bytes-take m c.args.address (length c.piece-piece.result.now) c.args.count within) in
    let items : c.extend_from_slice.new.self.items ≡ c.args.out.now.items ++ c.split_at.result.0.now = grind (arith, common_steps, c.in_ok-extend_from_slice.ensures.items) in
    items ∙ ap (λ (bs : List ℕ). c.args.out.now.items ++ bs) bytes

pub load-byte-requires-clause-may : goal.load-byte-requires-clause-may
load-byte-requires-clause-may g c =
    inl (may-at (g.M.Memory.mem c.args.memory.now) c.args.address c.args.count c.loop-k.k Read c.loop-k-test.true c.requires)

-- a byte that is loaded is below 256
loaded-small : (m : Mem) (b v : ℕ) → b < 2 ^ 64 → v ≡ number_at m b 1 → ((k : ℕ) → k < 1 → m.byte ((b + k) % 2 ^ 64) < 256) → v < 256
loaded-small m b v fits is small =
    let at : (b + 0) % 2 ^ 64 ≡ b = omega arith in
    let byte = loaded-byte m b v fits is in
    let below : m.byte ((b + 0) % 2 ^ 64) < 256 = small 0 (omega arith) in
    let same : m.byte ((b + 0) % 2 ^ 64) ≡ m.byte b = ap m.byte at in
    omega arith

pub overflow_cast-byte : goal.overflow_cast-byte
overflow_cast-byte g c =
    let below : c.load-byte.result < 256 = loaded-small (g.M.Memory.mem c.args.memory.now) ((c.args.address + c.loop-k.k) % 2 ^ 64) c.load-byte.result (omega arith) c.load-byte.ensures.number c.load-byte.ensures.bytes in
    search (rules, below)

pub loop-k-preserved : goal.loop-k-preserved
loop-k-preserved g c =
    let m : Mem = g.M.Memory.mem c.args.memory.now in
    let b = (c.args.address + c.loop-k.k) % 2 ^ 64 in
    let byte : c.load-byte.result ≡ m.byte b = loaded-byte m b c.load-byte.result (omega arith) c.load-byte.ensures.number in
    record {
      items =
          c.push_reserved.ensures.items
          ∙ ap (λ (xs : List ℕ). xs ++ (c.load-byte.result ∷ [])) c.loop-k.invariant.items
          ∙ ap (λ (v : ℕ). (c.args.out.now.items ++ bytes_at m c.args.address c.loop-k.k) ++ (v ∷ [])) byte
          ∙ append_assoc c.args.out.now.items (bytes_at m c.args.address c.loop-k.k) (m.byte b ∷ [])
          ∙ ap (λ (xs : List ℕ). c.args.out.now.items ++ xs) (sym (bytes-more m c.args.address c.loop-k.k));
      room = omega (arith, c.loop-k.invariant.room, c.push_reserved.ensures.len, c.push_reserved.ensures.capacity, c.loop-k-test.true);
    }
