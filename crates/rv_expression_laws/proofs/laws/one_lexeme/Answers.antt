-- Both lexemes are what the finder answers.
use Rattle.std.proofs.Common.{◌≡◌, ◌++◌, length, take, sym, ◌∙◌, ap, Some}
use Rattle.std.proofs.lemmas.Option.{some_pair_parts}
use Rattle.std.proofs.Math.Seq.{take-append_seam}
use Rattle.rv_expression_laws.specs.Front.{lexeme_at}
use Rattle.rv_expression_laws.proofs.LexemesLemmas.{lexeme_is}
use Rattle.rv_expression_laws.proofs.laws.one_lexeme.Goals as goal

pub returns : goal.returns
returns c j k text other rest after spells stops spells_other stops_other same =
    let one : lexeme_at (text ++ rest) ≡ Some (j, length text) = lexeme_is j text rest spells stops in
    let two : lexeme_at (other ++ after) ≡ Some (k, length other) = lexeme_is k other after spells_other stops_other in
    let parts = some_pair_parts j k (length text) (length other) (sym one ∙ ap lexeme_at same ∙ two) in
    (parts.0, sym (take-append_seam text rest) ∙ ap (λ n. take n (text ++ rest)) parts.1 ∙ ap (take (length other)) same ∙ take-append_seam other after)
