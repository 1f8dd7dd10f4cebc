use Rattle.std.proofs.Common.{◌≡◌, ◌-◌, ◌≤◌, true, length, map, rules, ap, arith}
use Rattle.std.proofs.lemmas.List.{length-map}
use Rattle.rv_isa_laws.specs.Memory.{Read, Write}
use Rattle.rv_image_laws.specs.Segment.{are_apart}
use Rattle.rv_image_laws.specs.Memory.{mem_of}
use Rattle.rv_image.specs.SegmentView.{segment_of}
use Rattle.rv_image.specs.Views.{image_of}
use Rattle.rv_memory.specs.HeldPages.{held_pages}
use Rattle.rv_states.proofs.ImageLemmas.{segment_read, segment_bytes, written_may, kept_may, stack_may, stack_zero}
use Rattle.rv_states.proofs.ReachLemmas.{none_reach, next_reach, made_whole}
use Rattle.rv_states.proofs.snapshot_writing.pieces_of.Goals as goal

pub loop-segment-init : goal.loop-segment-init
loop-segment-init c =
    none_reach c.new-pieces.result (image_of c.args.image.now) (held_pages c.args.memory.now) c.requires.kept c.new-pieces.ensures.count c.new-pieces.ensures.bytes

pub add_segment-requires-clause-reads : goal.add_segment-requires-clause-reads
add_segment-requires-clause-reads c =
    let s = c.segment-item.result in
    let i = c.loop-segment.segment-index in
    let apart : are_apart (map segment_of c.args.image.now.segments.items) ≡ true = search rules in
    let at = segment_read c.args.image.now c.deref-segment-items.result.now i s c.deref-segment-items.ensures.value (omega arith) c.segment-item.is in
    (written_may (image_of c.args.image.now) (held_pages c.args.memory.now) i (segment_of s) c.requires.kept c.requires.readable apart at s.ends).0

pub add_segment-requires-clause-writes : goal.add_segment-requires-clause-writes
add_segment-requires-clause-writes c =
    let s = c.segment-item.result in
    let i = c.loop-segment.segment-index in
    let apart : are_apart (map segment_of c.args.image.now.segments.items) ≡ true = search rules in
    let at = segment_read c.args.image.now c.deref-segment-items.result.now i s c.deref-segment-items.ensures.value (omega arith) c.segment-item.is in
    (written_may (image_of c.args.image.now) (held_pages c.args.memory.now) i (segment_of s) c.requires.kept c.requires.readable apart at s.ends).1

pub loop-segment-preserved : goal.loop-segment-preserved
loop-segment-preserved c =
    let image = image_of c.args.image.now in
    let s = c.segment-item.result in
    let i = c.loop-segment.segment-index in
    let apart : are_apart (map segment_of c.args.image.now.segments.items) ≡ true = search rules in
    let at = segment_read c.args.image.now c.deref-segment-items.result.now i s c.deref-segment-items.ensures.value (omega arith) c.segment-item.is in
    let bytes = segment_bytes image i (segment_of s) apart at s.ends in
    next_reach c.loop-segment.pieces c.add_segment.new.pieces image (held_pages c.args.memory.now) i (segment_of s) at c.loop-segment.invariant
    (c.in_ok-add_segment.ensures (mem_of image) bytes)

pub add_zeros-requires-clause-reads : goal.add_zeros-requires-clause-reads
add_zeros-requires-clause-reads c =
    let image = image_of c.args.image.now in
    let start = c.stack_from.result in
    kept_may (mem_of image) (held_pages c.args.memory.now) start (0x4000_0000 - start) Read c.requires.kept
    (stack_may image start (0x4000_0000 - start) c.stack_from.ensures.low (omega arith)).0

pub add_zeros-requires-clause-writes : goal.add_zeros-requires-clause-writes
add_zeros-requires-clause-writes c =
    let image = image_of c.args.image.now in
    let start = c.stack_from.result in
    kept_may (mem_of image) (held_pages c.args.memory.now) start (0x4000_0000 - start) Write c.requires.kept
    (stack_may image start (0x4000_0000 - start) c.stack_from.ensures.low (omega arith)).1

pub returns : goal.returns
returns c =
    let image = image_of c.args.image.now in
    let start = c.stack_from.result in
    let apart : are_apart (map segment_of c.args.image.now.segments.items) ≡ true = search rules in
    let all : length (map segment_of c.args.image.now.segments.items) ≤ c.loop-segment.segment-index =
    omega (arith, length-map c.args.image.now.segments.items segment_of, ap length c.deref-segment-items.ensures.value) in
    made_whole c.loop-segment.pieces c.add_zeros.new.self image (held_pages c.args.memory.now) start (0x4000_0000 - start) c.loop-segment.segment-index
    c.requires.kept apart c.stack_from.ensures.low (omega arith) c.stack_from.ensures.zeros all c.loop-segment.invariant
    (c.in_ok-add_zeros.ensures (mem_of image) (λ x low high. stack_zero image x apart (omega (arith, c.stack_from.ensures.low)) high))
