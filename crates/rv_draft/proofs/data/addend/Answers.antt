use Rattle.std.proofs.Common.{◌≡◌, pos, w64, FitsSigned, ◌∙◌, rules}
use Rattle.std.specs.Int.{int_wrap}
use Rattle.std.proofs.lemmas.Int.{to_z-of_z}
use Rattle.rv_draft.proofs.data.addend.Goals as goal

pub returns : goal.returns
unfolding int_wrap
returns c =
    let fits : FitsSigned w64 c.cast_signed.result = search rules in
    to_z-of_z w64 c.cast_signed.result fits ∙ (let e : c.cast_signed.result ≡ int_wrap w64 (pos c.args.plus) = search rules in e)
