use Rattle.std.proofs.Common.{◌∙◌, ap}
use Rattle.rv_debug_laws.specs.Labels.{statement_span}
use Rattle.rv_labels.proofs.places.Places.span.Goals as goal

pub returns : goal.returns
returns c = λ known rows marks are.
    c.statement_span.ensures known are.spanned ∙ ap (statement_span known c.args.self.now.file) c.from.ensures
