use Rattle.std.proofs.Common.{rules, ◌≡◌, ◌∙◌, w64, to_z, of_z, FitsSigned}
use Rattle.std.proofs.lemmas.Int.{to_z-of_z}
use Rattle.rv_isa_laws.specs.Arithmetic.{signed}
use Rattle.rv_instruction.proofs.OneInstructionLemmas.{constant_alone, constant_valid}
use Rattle.rv_instruction.proofs.known.constant_one.Goals as goal

pub returns-clause-is : goal.returns-clause-is
returns-clause-is c =
    let fits : FitsSigned w64 c.signed.result = search rules in
    let same : to_z w64 (of_z w64 c.signed.result) ≡ signed 64 c.args.number = to_z-of_z w64 c.signed.result fits ∙ c.signed.ensures in
    constant_alone c.args.operation.now c.args.number _ same c.single.result c.single.ensures

pub returns-clause-valid : goal.returns-clause-valid
returns-clause-valid c = constant_valid c.args.operation.now (signed 64 c.args.number) c.single.result c.operation_in_range.ensures (returns-clause-is c)
