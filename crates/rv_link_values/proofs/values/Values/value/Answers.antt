use Rattle.std.proofs.Common.{◌≡◌, ◌∙◌, ap, sym, subst, rules, w64, pos, true, false}
use Rattle.std.specs.Prelude.{IfOk, IfErr}
use Rattle.std.proofs.lemmas.Int.{to_z-of_z}
use Rattle.rv_isa.specs.Kinds.{is_low_part}
use Rattle.rv_object_types.specs.Parts.{relocation_of}
use Rattle.rv_link_laws.specs.Values.{paired}
use Rattle.rv_link_laws.specs.Layout.{outer_in}
use Rattle.rv_link_laws.specs.Untaken.{IsValueOf, IsDangling}
use Rattle.rv_placement.specs.Placement.{starts_of, layout_of}
use Rattle.rv_link_values.specs.declared.fault.ValueFault.TheVariants.{Dangling}
use Rattle.rv_link_values.proofs.ValuedLemmas.{own_is, low_is, dangles}
use Rattle.rv_link_values.proofs.values.Values.value.Goals as goal

pub returns-then-not-is_low_part-clause-value : goal.returns-then-not-is_low_part-clause-value
returns-then-not-is_low_part-clause-value c = λ os p i h at.
    let r = relocation_of c.args.relocation.now in
    let plain : is_low_part r.kind ≡ false = sym c.is_low_part.ensures ∙ c.if-not-is_low_part.true in
    own_is (outer_in os (layout_of p)) (starts_of p) os i r _ plain (to_z-of_z w64 c.own_value.result (search rules) ∙ c.own_value.ensures os p i h at)

pub returns-clause-value : goal.returns-clause-value
returns-clause-value c = λ os p i h at.
    let r = relocation_of c.args.relocation.now in
    let outer = outer_in os (layout_of p) in
    let low : is_low_part r.kind ≡ true = sym c.is_low_part.ensures ∙ c.if-not-is_low_part.false in
    let alone : r.addend ≡ pos 0 = search rules in
    subst (λ x. IfOk x (IsValueOf outer (starts_of p) os i r)) (sym c.ok_or.ensures.value)
    (low_is outer (starts_of p) os i r c.paired.result Dangling low alone (c.paired.ensures os p i.object h at.at ∙ ap (λ n. paired outer (starts_of p) os n i.object r.symbol) (sym at.numbered)))

pub returns-clause-refuses : goal.returns-clause-refuses
returns-clause-refuses c = λ os p i h at.
    let r = relocation_of c.args.relocation.now in
    let outer = outer_in os (layout_of p) in
    let low : is_low_part r.kind ≡ true = sym c.is_low_part.ensures ∙ c.if-not-is_low_part.false in
    subst (λ x. IfErr x (λ e. IsDangling outer (starts_of p) os i r)) (sym c.ok_or.ensures.value)
    (dangles outer (starts_of p) os i r c.paired.result Dangling low (c.paired.ensures os p i.object h at.at ∙ ap (λ n. paired outer (starts_of p) os n i.object r.symbol) (sym at.numbered)))
