use Rattle.std.proofs.Common.{◌≡◌, ◌+◌, ◌-◌, length, ap, sym, ◌∙◌, arith}
use Rattle.rv_isa_laws.specs.Memory.{bytes_at, Read, Write}
use Rattle.rv_memory.specs.HeldPages.{held_pages}
use Rattle.rv_states.proofs.ImageLemmas.{may_inside, zero_bytes}
use Rattle.rv_states.proofs.MakeLemmas.{more_added}
use Rattle.rv_states.proofs.pieces.Pieces.add_zeros_by.Goals as goal

pub add_chunk-requires-clause-reads : goal.add_chunk-requires-clause-reads
add_chunk-requires-clause-reads c =
    may_inside (held_pages c.args.memory.now) c.args.start (c.args.end - c.args.start) (c.loop-address.address - c.args.start) (length c.split_at.result.0.now) c.loop-address.address Read
    (omega arith) (omega arith) c.requires.reads

pub add_chunk-requires-clause-writes : goal.add_chunk-requires-clause-writes
add_chunk-requires-clause-writes c =
    may_inside (held_pages c.args.memory.now) c.args.start (c.args.end - c.args.start) (c.loop-address.address - c.args.start) (length c.split_at.result.0.now) c.loop-address.address Write
    (omega arith) (omega arith) c.requires.writes

pub loop-address-preserved : goal.loop-address-preserved
loop-address-preserved c =
    let start = c.args.start in
    let address = c.loop-address.address in
    let chunk = c.split_at.result.0.now in
    let long : length chunk ≡ c.min-count.result = omega arith in
    record {
      low = omega arith;
      high = omega arith;
      added = λ image none.
          let zeros : bytes_at image address c.min-count.result ≡ chunk =
          zero_bytes image address c.min-count.result c.args.zeros.now c.requires.zeros (omega arith) (omega arith) (λ x low high. none x (omega arith) (omega arith)) ∙ sym c.split_at.ensures.front in
          more_added _ _ _ image (held_pages c.args.memory.now) start address (address - start) (length chunk) (address + c.min-count.result - start) (omega arith) (omega arith)
          (c.loop-address.invariant.added image none) (c.in_ok-add_chunk.ensures image (ap (bytes_at image address) long ∙ zeros));
    }
