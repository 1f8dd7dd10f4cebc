use Rattle.std.proofs.Common.{refl, subst, ap, ◌∙◌, ℤ, w64, map}
use Rattle.std.proofs.lemmas.Int.{to_z-of_z}
use Rattle.rv_statement.specs.declared.statement.Operation.TheVariants as operations
use Rattle.rv_pseudo_laws.specs.Li.{li}
use Rattle.rv_pseudo.specs.Templates.{plain, AreNumbered}
use Rattle.rv_pseudo.proofs.RowsLemmas.{li_numbered, numbered_by}
use Rattle.rv_pseudo.proofs.number.more.Goals as goal

pub returns-in-Li : goal.returns-in-Li
returns-in-Li c = λ reloc.
    let o = c.in-Li in
    numbered_by c.args.operation _ c.args.number reloc _ _ o.is
    (c.all_plain.ensures ∙ ap (map plain) (c.li_sequence.ensures ∙ ap (λ (z : ℤ). li o.rd z) (to_z-of_z w64 c.args.number c.ranges.number)))
    (li_numbered o.rd c.args.number reloc)

pub returns-in-Parcel : goal.returns-in-Parcel
returns-in-Parcel c = λ reloc.
    let o = c.in-Parcel in
    numbered_by c.args.operation _ c.args.number reloc _ _ o.is refl
    (subst (λ (z : ℤ). AreNumbered (operations.Parcel o.operation o.a o.b) z reloc c.with_number.result.items) (to_z-of_z w64 c.args.number c.ranges.number)
    (c.with_number.ensures reloc))
