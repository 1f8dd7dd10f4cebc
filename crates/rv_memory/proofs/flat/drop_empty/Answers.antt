use Rattle.std.proofs.Common.{◌<◌, rules, map, length}
use Rattle.std.proofs.lemmas.Fn.{filter_same, All-from_retain}
use Rattle.std.proofs.lemmas.Bool.Decides.{nat_tests}
use Rattle.rv_image.specs.SegmentView.{segment_of}
use Rattle.rv_image.specs.declared.segment.Segment.{Segment as DeclaredSegment}
use Rattle.rv_memory.proofs.OrderLemmas.{has_bytes, filled-kept, filter-segments}
use Rattle.rv_memory.proofs.flat.drop_empty.Goals as goal

pub returns-clause-apart : goal.returns-clause-apart
returns-clause-apart c =
    let kept = filter_same _ (λ (s : DeclaredSegment). has_bytes (segment_of s)) _ (λ x b f' k. search rules) _ _ c.retain.ensures.filtered in
    let are = filled-kept (map segment_of c.args.segments.now.items) c.requires in
    rw (kept, filter-segments c.args.segments.now.items) are.apart

pub returns-clause-filled : goal.returns-clause-filled
returns-clause-filled c = All-from_retain _ (λ (s : DeclaredSegment). 0 < length s.bytes.items) _ (λ x b f' k. search (rules, nat_tests)) _ _ c.retain.ensures.filtered

pub returns-clause-memory : goal.returns-clause-memory
returns-clause-memory c =
    let kept = filter_same _ (λ (s : DeclaredSegment). has_bytes (segment_of s)) _ (λ x b f' k. search rules) _ _ c.retain.ensures.filtered in
    let are = filled-kept (map segment_of c.args.segments.now.items) c.requires in
    rw (kept, filter-segments c.args.segments.now.items) are.memory

pub returns-clause-found : goal.returns-clause-found
returns-clause-found c =
    let kept = filter_same _ (λ (s : DeclaredSegment). has_bytes (segment_of s)) _ (λ x b f' k. search rules) _ _ c.retain.ensures.filtered in
    let are = filled-kept (map segment_of c.args.segments.now.items) c.requires in
    rw (kept, filter-segments c.args.segments.now.items) are.found
