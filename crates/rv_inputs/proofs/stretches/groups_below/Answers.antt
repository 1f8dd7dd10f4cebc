use Rattle.std.proofs.Common.{nat_lt, rules, of_calls}
use Rattle.std.proofs.lemmas.Fn.{always_returns_same}
use Rattle.rv_list_laws.proofs.SortedLemmas.{partitioned_before}
use Rattle.rv_archive_laws.specs.Taken as laws
use Rattle.rv_inputs.specs.declared.offer.Offer.{Offer}
use Rattle.rv_inputs.proofs.CutLemmas.{cut_is, groups_rise}
use Rattle.rv_inputs.proofs.stretches.groups_below.Goals as goal

pub returns-clause-cut : goal.returns-clause-cut
returns-clause-cut c = λ filed.
    let xs = c.args.offers.now in
    cut_is (λ (o : laws.Offer). nat_lt o.group c.args.group) xs c.partition_point.result
    (c.partition_point.ensures.partitioned (λ (x : Offer). nat_lt x.group c.args.group) (always_returns_same _ _ _ (λ a r f k. search (rules, of_calls))) (partitioned_before (λ (x : Offer). x.group) c.args.group xs (groups_rise xs filed)))
