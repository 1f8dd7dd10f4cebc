use Rattle.std.proofs.Common.{arith, rules}
use Rattle.std.proofs.lemmas.Grind.{common_steps}
use Rattle.rv_statement.specs.View.{statement_of}
use Rattle.rv_draft.proofs.AddingLemmas.{added_by}
use Rattle.rv_draft.proofs.code.Coder.add_found.Goals as goal

pub returns : goal.returns
returns c = λ executable faults v rvc bytes wanted none pads has asked.
    added_by c.args.self.now _ c.args.section executable faults v rvc bytes wanted c.args.padding (statement_of c.args.statement.now) c.args.found.now none pads has asked
    (grind (arith, common_steps)) (search rules) (search rules)
