use Rattle.std.proofs.Common.{nat_cmp, subst, rules}
use Rattle.std.proofs.lemmas.List.Sorted.{answers_always, IsNonDecreasingBy-from_sort}
use Rattle.std.specs.List.Sorted.{IsStableByKey}
use Rattle.rv_link_sites.proofs.SortedLemmas.{place_of}
use Rattle.rv_link_sites.proofs.order.by_place.Goals as goal

pub returns-clause-rise : goal.returns-clause-rise
returns-clause-rise c =
    let keys = answers_always _ _ _ (λ f a r next called. search rules) in
    IsNonDecreasingBy-from_sort place_of _ (c.in_ok-sort_by_key.ensures.sorted place_of keys)

pub returns-clause-stable : goal.returns-clause-stable
returns-clause-stable c =
    let keys = answers_always _ _ _ (λ f a r next called. search rules) in
    subst (λ l. IsStableByKey place_of nat_cmp l c.sort_by_key.new.self.items) c.in_ok-sorted.ensures.items (c.sort_by_key.ensures.stable place_of keys)
