use Rattle.std.proofs.Common.{rules, refl, sym, []}
use Rattle.rv_statement.specs.View.{statement_of}
use Rattle.rv_draft.proofs.AddingLemmas.{added_by, grows_none}
use Rattle.rv_draft.proofs.code.Coder.add_none.Goals as goal

pub returns : goal.returns
returns c = λ executable faults v rvc wanted none pads has.
    added_by c.args.self.now _ c.args.section executable faults v rvc wanted wanted 0 (statement_of c.args.statement.now) [] none (sym pads) has (λ e. refl)
    (grows_none c.args.self.now.sections.items c.args.section) (search rules) (search rules)
