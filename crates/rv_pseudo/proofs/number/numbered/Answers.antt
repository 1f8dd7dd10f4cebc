use Rattle.std.proofs.Common.{subst, sym, ℤ, w64}
use Rattle.std.proofs.lemmas.Int.{to_z-of_z}
use Rattle.rv_pseudo.specs.Templates.{with_reloc, AreNumbered}
use Rattle.rv_pseudo.proofs.number.numbered.Goals as goal

pub returns-in-Some : goal.returns-in-Some
returns-in-Some c =
    subst (AreNumbered c.args.operation c.args.number c.args.reloc) (sym c.with_reloc.ensures)
    (subst (λ (z : ℤ). AreNumbered c.args.operation z c.args.reloc (with_reloc c.args.reloc c.in-Some.inst)) (to_z-of_z w64 c.args.number c.ranges.number)
    (c.in-Some.ensures.is c.args.reloc))

pub returns-in-None : goal.returns-in-None
returns-in-None c =
    subst (λ (z : ℤ). AreNumbered c.args.operation z c.args.reloc c.more.result.items) (to_z-of_z w64 c.args.number c.ranges.number) (c.more.ensures c.args.reloc)
