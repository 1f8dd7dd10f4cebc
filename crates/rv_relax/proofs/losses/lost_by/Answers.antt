use Rattle.std.proofs.Common.{◌≡◌, suc, sym, ap, rules}
use Rattle.rv_relax.specs.Paddings.{sum_of_first}
use Rattle.rv_relax.proofs.losses.lost_by.Goals as goal

pub returns-in-Some : goal.returns-in-Some
returns-in-Some c =
    let is : c.args.count ≡ suc c.in-Some.last = search rules in
    sym (ap (λ n. sum_of_first n c.args.sums.now) is)
