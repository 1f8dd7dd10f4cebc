use Rattle.std.proofs.Common.{◌<◌, rules, length}
use Rattle.std.proofs.lemmas.List.Sorted.{All-permutation, IsPermutation-map, IsNonDecreasingBy-from_sort, answers_always}
use Rattle.rv_image.specs.SegmentView.{segment_of}
use Rattle.rv_image.specs.declared.segment.Segment.{Segment as DeclaredSegment}
use Rattle.rv_memory.proofs.OrderLemmas.{permuted-kept, ordered-is}
use Rattle.rv_memory.proofs.flat.put_in_order.Goals as goal

pub returns-clause-apart : goal.returns-clause-apart
returns-clause-apart c =
    let moved = IsPermutation-map segment_of _ _ c.sort_unstable_by_key.ensures.permutation in
    (permuted-kept _ _ moved c.requires.apart).apart

pub returns-clause-memory : goal.returns-clause-memory
returns-clause-memory c =
    let moved = IsPermutation-map segment_of _ _ c.sort_unstable_by_key.ensures.permutation in
    (permuted-kept _ _ moved c.requires.apart).memory

pub returns-clause-ordered : goal.returns-clause-ordered
returns-clause-ordered c =
    let key = λ (s : DeclaredSegment). s.address in
    let rises = IsNonDecreasingBy-from_sort key _ (c.sort_unstable_by_key.ensures.sorted key (answers_always _ _ _ (λ f a r g h. search rules))) in
    ordered-is _ rises (All-permutation (λ (s : DeclaredSegment). 0 < length s.bytes.items) _ _ c.sort_unstable_by_key.ensures.permutation c.requires.filled)

pub returns-clause-found : goal.returns-clause-found
returns-clause-found c =
    let moved = IsPermutation-map segment_of _ _ c.sort_unstable_by_key.ensures.permutation in
    (permuted-kept _ _ moved c.requires.apart).found
