use Rattle.std.proofs.Common.{◌∙◌, ap, subst}
use Rattle.std.specs.Prelude.{not}
use Rattle.rv_expression_laws.specs.Codes.{faulty_if}
use Rattle.rv_unit.specs.Sections.{section_of}
use Rattle.rv_fault.specs.SourceFault.{IsLowest}
use Rattle.rv_unit.proofs.StandingLemmas.{at_limit}
use Rattle.rv_unit.proofs.unit.Unit.fault_of_section.Goals as goal

pub returns : goal.returns
returns c = λ i f inside is.
    subst (λ b. IsLowest c.faulty_if.result (faulty_if b 17)) (ap not (c.knows.ensures f.indexed) ∙ at_limit c.args.self.now i (section_of c.args.section) f inside is) c.faulty_if.ensures
