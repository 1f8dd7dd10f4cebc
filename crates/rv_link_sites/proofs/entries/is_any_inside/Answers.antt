use Rattle.std.proofs.Common.{◌<◌, ◌≤◌, nat_lt, length, ap, ◌∙◌, rules}
use Rattle.rv_link_sites.proofs.InsideLemmas.{none_inside, first_inside}
use Rattle.rv_link_sites.proofs.entries.is_any_inside.Goals as goal

pub returns-then-behind-offsets : goal.returns-then-behind-offsets
returns-then-behind-offsets c = λ rise.
    let past : length c.args.offsets.now ≤ c.count_until-behind.result = search rules in
    none_inside c.args.place c.args.offsets.now c.count_until-behind.result past (c.count_until-behind.ensures.point rise).0

pub returns : goal.returns
returns c = λ rise.
    let inside : c.count_until-behind.result < length c.args.offsets.now = search rules in
    let point = c.count_until-behind.ensures.point rise in
    ap (λ n. nat_lt n 8) c.saturating_sub.ensures ∙ first_inside c.args.place c.args.offsets.now c.count_until-behind.result inside rise point.0 point.1
