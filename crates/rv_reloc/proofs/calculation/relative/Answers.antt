use Rattle.std.proofs.Common.{rules, ap, ◌∙◌, w64}
use Rattle.std.specs.Int.{int_wrap}
use Rattle.std.proofs.lemmas.Int.{to_z-of_z}
use Rattle.rv_reloc_laws.specs.Values as is
use Rattle.rv_reloc.proofs.WrappingLemmas.{subtracted}
use Rattle.rv_reloc.proofs.calculation.relative.Goals as goal

-- src/calculation.rt:17:1
pub returns : goal.returns
returns c =
    subtracted c.absolute.result c.cast_signed.result (is.absolute c.args.s c.args.a) c.args.p (search rules) (c.absolute.ensures ∙ ap (λ x. int_wrap w64 (is.absolute c.args.s x)) (to_z-of_z w64 c.args.a (search rules))) c.cast_signed.ensures
