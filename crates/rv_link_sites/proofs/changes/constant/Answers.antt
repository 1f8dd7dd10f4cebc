use Rattle.std.proofs.Common.{◌≡◌, rules, ◌+◌, ◌%◌, ◌^◌, pos, ◌+ℤ◌, FitsSigned, sym, ap, subst, ◌∙◌}
use Rattle.std.specs.Int.{w64, int_wrap, cast_signed, cast_unsigned}
use Rattle.std.proofs.lemmas.Int.{to_z-of_z, SFits-int_wrap}
use Rattle.rv_link_sites.proofs.ConstantLemmas.{added_word}
use Rattle.rv_link_sites.proofs.changes.constant.Goals as goal

pub returns : goal.returns
returns c =
    let fits : FitsSigned w64 c.args.addend = search rules in
    let sum : c.wrapping_add_unsigned.result ≡ int_wrap w64 (c.args.addend +ℤ pos c.args.past_end) =
    c.wrapping_add_unsigned.ensures
    ∙ ap (λ a. cast_signed w64 ((cast_unsigned w64 a + c.args.past_end) % 2 ^ 64)) (to_z-of_z w64 c.args.addend fits)
    ∙ added_word c.args.addend c.args.past_end fits (search rules) in
    to_z-of_z w64 c.wrapping_add_unsigned.result (subst (FitsSigned w64) (sym sum) (SFits-int_wrap w64 (c.args.addend +ℤ pos c.args.past_end))) ∙ sum
