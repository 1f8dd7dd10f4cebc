use Rattle.std.proofs.Common.{◌<◌, length, rules}
use Rattle.std.proofs.lemmas.List.Sorted.{IsNonDecreasingBy-from_sort}
use Rattle.rv_link_sites.proofs.InsideLemmas.{sorted_none, sorted_more}
use Rattle.rv_link_sites.proofs.entries.sort_all.Goals as goal

pub loop-i-init : goal.loop-i-init
loop-i-init c = sorted_none c.args.lists.now

pub loop-i-preserved : goal.loop-i-preserved
loop-i-preserved c =
    let inside : c.loop-i.i < length c.loop-i.lists = search rules in
    sorted_more c.loop-i.i c.args.lists.now c.loop-i.lists c.index-lists-i.result c.sort.new.self c.loop-i.invariant inside c.sort.ensures.permutation
    (IsNonDecreasingBy-from_sort (λ x. x) c.sort.new.self.items c.in_ok-sort.ensures.sorted)
