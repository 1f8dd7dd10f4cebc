use Rattle.std.proofs.Common.{rules, ◌≡◌, codes, refl}
use Rattle.rv_isa.proofs.AbiNamesLemmas.{found_x, found_fp}
use Rattle.rv_isa.proofs.register_names.reg_named.Goals as goal

pub returns-then-eq : goal.returns-then-eq
returns-then-eq c r =
    let is : c.args.name.now ≡ codes "fp" = search rules in
    found_fp c.args.name.now is r

pub returns-in-Some : goal.returns-in-Some
returns-in-Some c =
    found_x c.args.name.now c.in-Some.reg ((c.in-Some.ensures c.in-Some.reg).0 refl)
