use Rattle.std.proofs.Common.{rules, ap, ◌∙◌, w64, to_z}
use Rattle.std.specs.Int.{int_wrapping_add}
use Rattle.std.proofs.lemmas.Int.{wrapping_add_is}
use Rattle.rv_reloc.proofs.WrappingLemmas.{added}
use Rattle.rv_reloc.proofs.calculation.absolute.Goals as goal

-- src/calculation.rt:10:1
pub returns : goal.returns
returns c =
    ap (λ x. int_wrapping_add w64 x c.args.a) c.cast_signed.ensures
    ∙ wrapping_add_is w64 (to_z w64 c.args.s) c.args.a (search rules) (search rules)
    ∙ added c.args.s c.args.a (search rules)
