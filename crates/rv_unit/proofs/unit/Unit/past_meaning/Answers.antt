use Rattle.std.proofs.Common.{◌∙◌, ◌+◌, sym}
use Rattle.rv_unit.specs.Sections.{offset_of}
use Rattle.rv_unit.specs.Unit.{said}
use Rattle.rv_unit.proofs.ScopedLemmas.{past_beyond, past_symbol}
use Rattle.rv_unit.proofs.unit.Unit.past_meaning.Goals as goal

pub returns-then-comes_after : goal.returns-then-comes_after
returns-then-comes_after c = λ i f within at inside.
    past_beyond (said c.args.self.now) i (offset_of c.args.place) c.args.symbol within (sym c.comes_after.ensures ∙ c.if-comes_after.true)

pub returns : goal.returns
returns c = λ i f within at inside.
    c.early_meaning.ensures (i + 1) f at ∙ past_symbol (said c.args.self.now) i (offset_of c.args.place) c.args.symbol within inside (sym c.comes_after.ensures ∙ c.if-comes_after.false)
