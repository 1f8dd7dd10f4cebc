use Rattle.std.proofs.Common.{subst, ℤ, w64}
use Rattle.std.proofs.lemmas.Int.{to_z-of_z}
use Rattle.rv_pseudo.specs.Templates.{IsNumberedOne}
use Rattle.rv_pseudo.proofs.number.numbered_one.Goals as goal

pub returns-clause-is : goal.returns-clause-is
returns-clause-is c =
    subst (λ (z : ℤ). IsNumberedOne c.args.operation.now z c.instruction.result) (to_z-of_z w64 c.args.number c.ranges.number) c.instruction.ensures.is
