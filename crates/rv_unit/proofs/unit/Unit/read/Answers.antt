use Rattle.std.proofs.Common.{ap, sym, ◌∙◌, option_map}
use Rattle.rv_statement.specs.Statements.{statements_of}
use Rattle.rv_unit_laws.specs.Faults.{first_unit_fault}
use Rattle.rv_unit.specs.Unit.{fault_of}
use Rattle.rv_unit.proofs.unit.Unit.read.Goals as goal

pub returns-clause-refuses : goal.returns-clause-refuses
returns-clause-refuses c =
    ap (λ v. first_unit_fault (statements_of v)) (sym c.in_ok-unit.ensures.same)
    ∙ sym c.first_fault.ensures ∙ ap (option_map fault_of) c.in-Some-first_fault.is
