use Rattle.std.proofs.Common.{◌≡◌, ◌∙◌, false, sym, subst}
use Rattle.rv_statement.specs.View.{plain_of}
use Rattle.rv_draft.specs.Measure.{HasOneLength, is_bare_parcel, is_unary}
use Rattle.rv_draft.proofs.ParcelLengthsLemmas.{bare_told}
use Rattle.rv_draft.proofs.WordsLemmas.{plain_told}
use Rattle.rv_draft.proofs.measure.plain_length.Goals as goal

pub returns-then-is_bare_parcel : goal.returns-then-is_bare_parcel
returns-then-is_bare_parcel c = bare_told c.args.statement.now c.args.compressed (sym c.is_bare_parcel.ensures ∙ c.if-is_bare_parcel.true)

pub returns : goal.returns
returns c =
    let parcel : is_bare_parcel c.args.statement.now ≡ false = sym c.is_bare_parcel.ensures ∙ c.if-is_bare_parcel.false in
    let plain : is_unary c.args.statement.now ≡ false = sym c.is_unary.ensures ∙ c.if-is_unary.false in
    subst (λ b. HasOneLength b (plain_of c.args.statement.now) 4) (sym c.if-compressed.false) (plain_told c.args.statement.now parcel plain)
