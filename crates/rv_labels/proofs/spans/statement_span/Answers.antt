use Rattle.std.proofs.Common.{◌∙◌, filter}
use Rattle.rv_debug_laws.specs.Labels.{is_row_of}
use Rattle.rv_labels.proofs.LabelsLemmas.{kept_some, kept_none}
use Rattle.rv_labels.proofs.spans.statement_span.Goals as goal

pub returns-in-Some : goal.returns-in-Some
returns-in-Some c = λ rows are.
    kept_some (filter (is_row_of c.args.file c.args.ordinal) rows) c.in-Some.span.now (c.in-Some.ensures.value ∙ are (c.args.file, c.args.ordinal))

pub returns-in-None : goal.returns-in-None
returns-in-None c = λ rows are.
    kept_none (filter (is_row_of c.args.file c.args.ordinal) rows) (c.in-None.ensures.value ∙ are (c.args.file, c.args.ordinal))
