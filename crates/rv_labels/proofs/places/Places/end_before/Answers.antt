use Rattle.std.proofs.Common.{◌∙◌, ap, subst, sym}
use Rattle.std.specs.Prelude.{option_and_then, option_map}
use Rattle.rv_map_laws.specs.declared.map.Region.{Region}
use Rattle.rv_object_laws.specs.declared.row.Row.{Row}
use Rattle.rv_debug_laws.specs.Labels.{last_before, statement_span}
use Rattle.std.specs.List.Sorted.{IsNonDecreasingBy}
use Rattle.rv_labels.specs.Indices.{ordinal_of}
use Rattle.rv_labels.proofs.places.Places.end_before.Goals as goal

pub returns-in-Some : goal.returns-in-Some
returns-in-Some c = λ known rows marks are.
    let file = c.args.self.now.file in
    c.end_of.ensures ∙ ap (option_map (λ (s : Region). s.end)) (c.span.ensures known rows marks are)
    ∙ ap (option_and_then (λ (row : Row). option_map (λ (s : Region). s.end) (statement_span known file row.ordinal)))
    (sym c.in-Some.is ∙ c.last_before.ensures (λ is. subst (IsNonDecreasingBy ordinal_of) (sym are.own) (are.ordered is)) ∙ ap (last_before c.args.section c.args.ordinal) are.own)

pub returns-in-None : goal.returns-in-None
returns-in-None c = λ known rows marks are.
    let file = c.args.self.now.file in
    ap (option_and_then (λ (row : Row). option_map (λ (s : Region). s.end) (statement_span known file row.ordinal)))
    (sym c.in-None.is ∙ c.last_before.ensures (λ is. subst (IsNonDecreasingBy ordinal_of) (sym are.own) (are.ordered is)) ∙ ap (last_before c.args.section c.args.ordinal) are.own)
