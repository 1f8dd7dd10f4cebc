use Rattle.std.proofs.Common.{refl, sym, ◌∙◌}
use Rattle.rv_fault.specs.declared.source_fault.SourceCode.TheVariants.{UnsupportedHere}
use Rattle.rv_pseudo.proofs.TableLemmas.{answer_found, answer_unplaced}
use Rattle.rv_pseudo.proofs.expanding.else_unplaced.Goals as goal

pub returns-then-is_placed : goal.returns-then-is_placed
returns-then-is_placed c = answer_found c.args.operation c.args.function c.args.manner c.operation_templates.result c.requires c.operation_templates.ensures

pub returns-else-is_placed : goal.returns-else-is_placed
returns-else-is_placed c = answer_unplaced c.args.operation c.args.function c.args.manner UnsupportedHere refl c.requires (sym c.is_placed.ensures ∙ c.if-is_placed.false)
