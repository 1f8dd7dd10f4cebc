use Rattle.std.proofs.Common.{sym, ap, ◌∙◌, ◌∷◌, [], ℤ, w64}
use Rattle.std.proofs.lemmas.Int.{to_z-of_z}
use Rattle.rv_pseudo.specs.Templates.{plain, form_beside}
use Rattle.rv_pseudo.proofs.RowsLemmas.{parcel_numbered, form_made, none_made}
use Rattle.rv_pseudo.proofs.parcel.with_number.Goals as goal

pub returns-in-Some : goal.returns-in-Some
returns-in-Some c = λ reloc.
    let same = ap (λ (z : ℤ). form_beside c.args.operation c.args.a c.args.b z) (to_z-of_z w64 c.args.number c.ranges.number) in
    parcel_numbered c.args.operation c.args.a c.args.b c.args.number reloc c.one.result.items
    (form_made _ c.in-Some.form c.one.result.items (sym (c.form_beside.ensures.is ∙ same) ∙ c.in-Some.is)
    (c.one.ensures ∙ ap (λ t. t ∷ []) (c.plain.ensures ∙ ap plain c.expanded.ensures.same)))

pub returns-in-None : goal.returns-in-None
returns-in-None c = λ reloc.
    let same = ap (λ (z : ℤ). form_beside c.args.operation c.args.a c.args.b z) (to_z-of_z w64 c.args.number c.ranges.number) in
    parcel_numbered c.args.operation c.args.a c.args.b c.args.number reloc c.new.result.items
    (none_made _ c.new.result.items (sym (c.form_beside.ensures.is ∙ same) ∙ c.in-None.is))
