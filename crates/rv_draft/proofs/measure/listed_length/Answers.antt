use Rattle.std.proofs.Common.{rules, ◌≡◌, ◌+◌, ◌∙◌, length, sym, ap, subst}
use Rattle.rv_statement.specs.View.{statement_of}
use Rattle.rv_instruction.specs.Code.{Codes, OffersAny}
use Rattle.rv_instruction.specs.Scoped.{values_at, labels_at}
use Rattle.rv_draft.specs.Contents.{bytes_coded}
use Rattle.rv_draft.proofs.SameLengthsLemmas.{same_length, not_refused}
use Rattle.rv_draft.proofs.measure.listed_length.Goals as goal

pub code-requires : goal.code-requires
code-requires c = subst (λ o. OffersAny o 4) (sym c.requires) tt

pub returns-in-Ok : goal.returns-in-Ok
returns-in-Ok c = λ index filled stands padding sound none found is.
    let s = statement_of c.args.statement.now in
    let v = values_at c.args.scope.now index c.args.place in
    let codes = subst (Codes c.args.compressed 4 v (labels_at c.args.scope.now index) s) c.in-Ok.is (c.code.ensures.codes index filled stands) in
    let same : c.as_slice.result.now ≡ c.in-Ok.found.items = search rules in
    ap (λ n. padding + n)
    (same_length v c.args.compressed s.kind found c.in-Ok.found.items none is (4, codes.1) ∙ ap (λ l. length (bytes_coded l)) (sym same) ∙ sym c.bytes_of.ensures)

pub returns-in-Err : goal.returns-in-Err
returns-in-Err c = λ index filled stands padding sound none found is.
    let s = statement_of c.args.statement.now in
    let v = values_at c.args.scope.now index c.args.place in
    let l = labels_at c.args.scope.now index in
    absurd (not_refused c.args.compressed 4 v l s c.in-Err.field-0
    (subst (Codes c.args.compressed 4 v l s) c.in-Err.is (c.code.ensures.codes index filled stands)) sound)
