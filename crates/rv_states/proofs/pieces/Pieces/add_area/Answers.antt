use Rattle.std.proofs.Common.{◌≡◌, ℕ, ◌+◌, ◌-◌, List, length, length-take, length-drop, take, drop, refl, ap, ◌∙◌, arith}
use Rattle.rv_isa_laws.specs.Memory.{bytes_at, Read, Write}
use Rattle.rv_memory.specs.HeldPages.{held_pages}
use Rattle.rv_states.proofs.ImageLemmas.{may_inside, bytes_inside}
use Rattle.rv_states.proofs.MakeLemmas.{more_added}
use Rattle.rv_states.proofs.pieces.Pieces.add_area.Goals as goal

pub add_chunk-requires-clause-reads : goal.add_chunk-requires-clause-reads
add_chunk-requires-clause-reads c =
    let from = c.loop-from.from in
    let bytes = c.args.bytes.now in
    let chunk = take (from + c.min-count.result - from) (drop from bytes) in
    may_inside (held_pages c.args.memory.now) c.args.address (length bytes) from (length chunk) (c.args.address + from) Read refl
    (omega (arith, length-take (from + c.min-count.result - from) (drop from bytes), length-drop from bytes)) c.requires.reads

pub add_chunk-requires-clause-writes : goal.add_chunk-requires-clause-writes
add_chunk-requires-clause-writes c =
    let from = c.loop-from.from in
    let bytes = c.args.bytes.now in
    let chunk = take (from + c.min-count.result - from) (drop from bytes) in
    may_inside (held_pages c.args.memory.now) c.args.address (length bytes) from (length chunk) (c.args.address + from) Write refl
    (omega (arith, length-take (from + c.min-count.result - from) (drop from bytes), length-drop from bytes)) c.requires.writes

pub loop-from-preserved : goal.loop-from-preserved
loop-from-preserved c =
    let from = c.loop-from.from in
    let bytes = c.args.bytes.now in
    let count = from + c.min-count.result - from in
    let chunk = take count (drop from bytes) in
    let long : length chunk ≡ count = omega (arith, length-take count (drop from bytes), length-drop from bytes) in
    record {
      within = omega arith;
      added = λ image is.
          let part : bytes_at image (c.args.address + from) (length chunk) ≡ chunk =
          bytes_inside image c.args.address (length bytes) from (length chunk) (c.args.address + from) refl (omega arith)
          ∙ ap (λ (l : List ℕ). take (length chunk) (drop from l)) is ∙ ap (λ (k : ℕ). take k (drop from bytes)) long in
          more_added _ _ _ image (held_pages c.args.memory.now) c.args.address (c.args.address + from) from (length chunk) (from + c.min-count.result) refl (omega arith)
          (c.loop-from.invariant.added image is) (c.in_ok-add_chunk.ensures image part);
    }
