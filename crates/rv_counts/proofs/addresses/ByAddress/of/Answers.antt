use Rattle.std.proofs.Common.{List, ap, ◌∙◌, rules}
use Rattle.std.proofs.lemmas.List.Sorted.{IsNonDecreasingBy-from_sort_by_key, sum_by-IsPermutation}
use Rattle.rv_counts.specs.declared.rows.CountedInstruction.{CountedInstruction}
use Rattle.rv_counts.specs.Rows.{counted_if, sum_of}
use Rattle.rv_counts.specs.Sums.{pc_of}
use Rattle.rv_counts.proofs.addresses.ByAddress.of.Goals as goal

pub invariant_of-result : goal.invariant_of-result
invariant_of-result c = record { rise = IsNonDecreasingBy-from_sort_by_key pc_of _ c.in_ok-sort_by_key.ensures.sorted (λ a r q k. search rules) }

pub returns : goal.returns
returns c = λ test count.
    sum_by-IsPermutation (counted_if test count) _ _ c.in_ok-sort_by_key.ensures.permutation ∙ ap (λ (rows : List CountedInstruction). sum_of test count rows) c.in_ok-rows.ensures.items
