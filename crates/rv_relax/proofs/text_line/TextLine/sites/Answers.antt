use Rattle.std.proofs.Common.{sym, subst, ◌∙◌}
use Rattle.rv_call_sizes.specs.Passes.{IsInput}
use Rattle.rv_relax.specs.Plan.{objects_of_line}
use Rattle.rv_relax.proofs.PlacingLemmas.{input_from}
use Rattle.rv_relax.proofs.text_line.TextLine.sites.Goals as goal

pub returns-clause-value : goal.returns-clause-value
unfolding objects_of_line
returns-clause-value c = c.deref.ensures.value ∙ c.args.self.now.line

pub returns-clause-input : goal.returns-clause-input
returns-clause-input c = subst IsInput (sym c.deref.ensures.value) (input_from c.args.self.now.sites.items c.args.self.now.apart)
