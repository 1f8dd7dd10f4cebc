use Rattle.std.proofs.Common.{◌≡◌, ◌∙◌, suc, nat_le, rules, of_calls}
use Rattle.std.proofs.lemmas.Fn.{always_returns_same}
use Rattle.rv_list_laws.proofs.SortedLemmas.{partitioned_up_to}
use Rattle.rv_unit.specs.declared.numeric_labels.Run.{Run}
use Rattle.rv_unit.proofs.OrderedLemmas.{last_before, none_before, got}
use Rattle.rv_unit.proofs.RunsLemmas.{runs_rise, found_until, ends_until}
use Rattle.rv_unit.proofs.numeric_labels.run_of.Goals as goal

pub returns-in-Some : goal.returns-in-Some
returns-in-Some c = λ count runs.
    let rs = c.args.runs.now in
    let i = c.args.index in
    let after = c.partition_point-after.result in
    let point = ends_until rs i after (c.partition_point-after.ensures.partitioned (λ (r : Run). nat_le r.first i) (always_returns_same _ _ _ (λ a r f k. search (rules, of_calls))) (partitioned_up_to (λ (r : Run). r.first) i rs (runs_rise rs count runs))) in
    let is : after ≡ suc c.in-Some.last = search rules in
    c.copied.ensures ∙ got c.get.result rs c.in-Some.last c.get.ensures.lookup.0 c.get.ensures.lookup.1
    ∙ last_before (λ (r : Run). r.first) (suc i) rs after c.in-Some.last c.partition_point-after.ensures.bound point.0 point.1 is
    ∙ found_until rs i

pub returns-in-None : goal.returns-in-None
returns-in-None c = λ count runs.
    let rs = c.args.runs.now in
    let i = c.args.index in
    let after = c.partition_point-after.result in
    let point = ends_until rs i after (c.partition_point-after.ensures.partitioned (λ (r : Run). nat_le r.first i) (always_returns_same _ _ _ (λ a r f k. search (rules, of_calls))) (partitioned_up_to (λ (r : Run). r.first) i rs (runs_rise rs count runs))) in
    let is : after ≡ 0 = search rules in
    none_before (λ (r : Run). r.first) (suc i) rs after c.partition_point-after.ensures.bound point.0 point.1 is
    ∙ found_until rs i
