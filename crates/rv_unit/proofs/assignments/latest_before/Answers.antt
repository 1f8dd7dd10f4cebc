use Rattle.std.proofs.Common.{◌≡◌, ◌∙◌, suc, rules}
use Rattle.rv_unit.specs.declared.tables.Assignment.{Assignment}
use Rattle.rv_unit.proofs.OrderedLemmas.{last_before, none_before, got}
use Rattle.rv_unit.proofs.assignments.latest_before.Goals as goal

pub returns-in-Some : goal.returns-in-Some
returns-in-Some c = λ rise.
    let point = c.count_before.ensures.point rise in
    let is : c.count_before.result ≡ suc c.in-Some.last = search rules in
    c.copied.ensures ∙ got c.get.result c.args.assignments.now c.in-Some.last c.get.ensures.lookup.0 c.get.ensures.lookup.1
    ∙ last_before (λ (s : Assignment). s.ordinal) c.args.ordinal c.args.assignments.now c.count_before.result c.in-Some.last c.count_before.ensures.bound point.0 point.1 is

pub returns-in-None : goal.returns-in-None
returns-in-None c = λ rise.
    let point = c.count_before.ensures.point rise in
    let is : c.count_before.result ≡ 0 = search rules in
    none_before (λ (s : Assignment). s.ordinal) c.args.ordinal c.args.assignments.now c.count_before.result c.count_before.ensures.bound point.0 point.1 is
