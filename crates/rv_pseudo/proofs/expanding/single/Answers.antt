use Rattle.std.proofs.Common.{sym, subst, ap, ◌∙◌, ℤ, w64, to_z, of_z, None, Some}
use Rattle.std.proofs.lemmas.Int.{to_z-of_z}
use Rattle.rv_pseudo_laws.specs.InstructionFaults.{Number}
use Rattle.rv_pseudo.specs.Faults.{faults_of}
use Rattle.rv_pseudo.specs.Templates.{IsNumberedOne}
use Rattle.rv_pseudo.proofs.LowestLemmas.{none_lowest}
use Rattle.rv_pseudo.proofs.InRangeLemmas.{number_takes, value_sound}
use Rattle.rv_pseudo.proofs.OneRowLemmas.{one_of}
use Rattle.rv_pseudo.proofs.expanding.single.Goals as goal

pub numbered_one-requires-clause-range : goal.numbered_one-requires-clause-range
numbered_one-requires-clause-range c =
    let z : ℤ = to_z w64 (of_z w64 c.args.number) in
    let own = none_lowest c.operand_fault.result (faults_of c.args.operation.now None (Number z)) c.operand_fault.ensures c.in-None.is in
    number_takes c.args.operation.now None (Some z) (value_sound c.args.operation.now (Number z) own) (sym c.takes_target.ensures ∙ c.if-takes_target.false)

pub returns-in-None : goal.returns-in-None
returns-in-None c =
    let z : ℤ = to_z w64 (of_z w64 c.args.number) in
    let same = to_z-of_z w64 c.args.number c.ranges.number in
    let own = none_lowest c.operand_fault.result (faults_of c.args.operation.now None (Number z)) c.operand_fault.ensures c.in-None.is in
    one_of c.args.operation.now c.args.number c.numbered_one.result
    (ap (λ (k : ℤ). faults_of c.args.operation.now None (Number k)) (sym same) ∙ own)
    (sym c.takes_target.ensures ∙ c.if-takes_target.false)
    (subst (λ (k : ℤ). IsNumberedOne c.args.operation.now k c.numbered_one.result) same c.numbered_one.ensures.is)
    c.numbered_one.ensures.whole
