use Rattle.std.proofs.Common.{◌∙◌, ap, sym}
use Rattle.std.specs.Prelude.{option_map}
use Rattle.rv_map_laws.specs.declared.map.Region.{Region}
use Rattle.rv_debug_laws.specs.Labels.{definition_address, last_at, statement_span}
use Rattle.rv_labels.proofs.LabelsLemmas.{by_none, by_row}
use Rattle.rv_labels.proofs.places.Places.address.Goals as goal

pub returns-in-Some : goal.returns-in-Some
returns-in-Some c = λ known rows marks are.
    let file = c.args.self.now.file in
    let section = c.in-InSection.section in
    let offset = c.in-InSection.offset in
    c.start_of.ensures ∙ ap (option_map (λ (s : Region). s.start)) (c.span.ensures known rows marks are)
    ∙ by_row (λ n. option_map (λ (s : Region). s.start) (statement_span known file n)) (last_at section offset rows) c.in-Some.ordinal.now (c.in-Some.ensures.value ∙ are.numbered (section, offset))
    ∙ ap (definition_address known file rows) (sym c.in-InSection.is)

pub returns-in-None : goal.returns-in-None
returns-in-None c = λ known rows marks are.
    let file = c.args.self.now.file in
    let section = c.in-InSection.section in
    let offset = c.in-InSection.offset in
    by_none (λ n. option_map (λ (s : Region). s.start) (statement_span known file n)) (last_at section offset rows) (c.in-None.ensures.value ∙ are.numbered (section, offset))
    ∙ ap (definition_address known file rows) (sym c.in-InSection.is)
