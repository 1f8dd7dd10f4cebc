use Rattle.std.proofs.Common.{sym, ◌∙◌, arith}
use Rattle.rv_link_sites.specs.Text.{objects_of}
use Rattle.rv_link_sites.proofs.TargetsLemmas.{offset_none, offset_some}
use Rattle.rv_link_sites.proofs.text.Text.offset.Goals as goal

pub returns-then-not-is_in_text : goal.returns-then-not-is_in_text
returns-then-not-is_in_text c = offset_none (objects_of c.args.self.now) c.args.place.file.0 c.args.place.section.0 c.args.place.offset (sym c.is_in_text.ensures ∙ c.if-not-is_in_text.true)

pub stand-start-requires-clause-text : goal.stand-start-requires-clause-text
stand-start-requires-clause-text c = sym c.is_in_text.ensures ∙ c.if-not-is_in_text.false

pub overflow_cast-result : goal.overflow_cast-result
overflow_cast-result c = record { fits = omega (arith, c.saturating_sub.ensures, c.stand-start.ensures.order, c.from.ensures) }

pub returns : goal.returns
returns c =
    offset_some (objects_of c.args.self.now) c.args.place.file.0 c.args.place.section.0 c.args.place.offset c.stand-start.result.0 c.stand-start.result.1 c.min.result c.saturating_sub.result
    (sym c.is_in_text.ensures ∙ c.if-not-is_in_text.false) c.stand-start.ensures.start c.stand-start.ensures.end (omega (arith, c.min.ensures, c.from.ensures)) (omega (arith, c.saturating_sub.ensures, c.from.ensures))
