use Rattle.std.proofs.Common.{◌∙◌, ◌+◌, length, subst}
use Rattle.rv_expression_laws.specs.Codes.{faulty_if}
use Rattle.rv_statement_laws.specs.Statement.{Label}
use Rattle.rv_fault.specs.SourceFault.{IsLowest}
use Rattle.rv_unit.specs.Unit.{said}
use Rattle.rv_unit.proofs.ApartLemmas.{whole_apart}
use Rattle.rv_unit.proofs.ScopedLemmas.{whole_before}
use Rattle.rv_unit.proofs.StandingLemmas.{at_defined}
use Rattle.rv_unit.proofs.unit.Unit.fault_of_label.Goals as goal

pub returns : goal.returns
returns c = λ i p at.
    let u = c.args.self.now in
    subst (λ b. IsLowest c.faulty_if.result (faulty_if b 11))
    (c.is_defined_before.ensures at.filled.indexed (1 + length (said u)) (whole_before u at.filled) (whole_apart u at.filled) ∙ at_defined u i c.args.ordinal p (Label c.args.name.now) c.args.name.now at) c.faulty_if.ensures
