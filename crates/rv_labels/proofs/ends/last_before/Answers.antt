use Rattle.std.proofs.Common.{◌∙◌, ap}
use Rattle.rv_debug_laws.specs.Labels.{last_before}
use Rattle.rv_labels.proofs.EndsLemmas.{front_alone}
use Rattle.rv_labels.proofs.ends.last_before.Goals as goal

pub returns : goal.returns
returns c = λ ordered.
    c.found_before-2.ensures
    ∙ ap (last_before c.args.section c.args.ordinal) c.split_at.ensures.front
    ∙ front_alone c.args.section c.args.ordinal c.args.rows.now c.count_before.result (c.count_before.ensures.point (ordered c.if-not-are_ordered.false))
