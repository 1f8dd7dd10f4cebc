use Rattle.std.proofs.Common.{◌∙◌, ◌||◌, refl, subst}
use Rattle.std.specs.Prelude.{not}
use Rattle.rv_expression_laws.specs.Codes.{faulty_if}
use Rattle.rv_statement_laws.specs.Statement.{Instruction}
use Rattle.rv_unit_laws.specs.Sections.{Section, is_nobits}
use Rattle.rv_fault.specs.SourceFault.{IsLowest}
use Rattle.rv_unit.proofs.StandingLemmas.{at_home}
use Rattle.rv_unit.proofs.unit.Unit.fault_of_instruction.Goals as goal

pub returns : goal.returns
returns c = λ i o mnemonic operands at.
    subst (λ (k : Section). IsLowest c.instruction_fault.result (faulty_if (not k.executable || is_nobits k) 15)) (c.section_at.ensures ∙ at_home c.args.self.now i o c.args.place (Instruction mnemonic operands) at refl) c.instruction_fault.ensures
