use Rattle.std.proofs.Common.{◌≡◌, ◌+◌, ◌∙◌, Some, None, length, sym, ap, subst, append-nil}
use Rattle.rv_statement.specs.View.{statement_of}
use Rattle.rv_instruction.specs.Code.{alone_coded, encoded_bytes, OffersAny}
use Rattle.rv_instruction.specs.Scoped.{values_at}
use Rattle.rv_draft.proofs.SameLengthsLemmas.{same_length}
use Rattle.rv_draft.proofs.measure.made_length.Goals as goal

pub returns-in-Some : goal.returns-in-Some
returns-in-Some c = λ index filled stands padding sound none found is.
    let s = statement_of c.args.statement.now in
    let v = values_at c.args.scope.now index c.args.place in
    let e = c.in-Some.encoded in
    let codes = c.in-Some.ensures.codes index filled stands 4 (subst (λ o. OffersAny o 4) (sym none) tt) in
    ap (λ n. padding + n)
    (same_length v c.args.compressed s.kind found (alone_coded e).items none is (4, codes.1) ∙ ap length (append-nil (encoded_bytes e)) ∙ sym c.width.ensures.size)

pub returns-in-Some-near_forms : goal.returns-in-Some-near_forms
returns-in-Some-near_forms c = λ index filled stands padding sound none found is.
    absurd (let both : None ≡ Some c.in-Some-near_forms.field-0 = sym none ∙ sym c.near_forms.ensures ∙ c.in-Some-near_forms.is in cc)
