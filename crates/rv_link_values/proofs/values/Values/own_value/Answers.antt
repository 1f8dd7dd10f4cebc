use Rattle.std.proofs.Common.{◌∙◌, ap, sym, rules, w64}
use Rattle.std.specs.Prelude.{unwrap_or}
use Rattle.std.proofs.lemmas.Int.{to_z-of_z}
use Rattle.rv_reloc_laws.specs.Values.{value_of}
use Rattle.rv_link_laws.specs.Values as laws
use Rattle.rv_link_laws.specs.Layout.{outer_in}
use Rattle.rv_placement.specs.Placement.{starts_of, layout_of}
use Rattle.rv_link_values.proofs.CalculatedLemmas.{place_wraps}
use Rattle.rv_link_values.proofs.values.Values.own_value.Goals as goal

pub returns : goal.returns
returns c = λ os p i h at.
    let r = c.args.relocation.now in
    let symbol = c.target-symbol.result in
    let place = c.moved-place.result in
    let moved = laws.moved (starts_of p i.file i.index) i.section r.place in
    to_z-of_z w64 c.value.result (search rules)
    ∙ c.value.ensures
    ∙ ap (λ a. value_of r.kind symbol a place) (to_z-of_z w64 r.addend (search rules))
    ∙ ap (λ n. value_of r.kind symbol r.addend n) (c.moved-place.ensures os p i h at)
    ∙ place_wraps r.kind symbol r.addend moved
    ∙ ap (λ n. value_of r.kind n r.addend moved) (c.target-symbol.ensures os p i.object h at.at)
    ∙ ap (λ f. value_of r.kind (unwrap_or (laws.target (outer_in os (layout_of p)) (starts_of p f) i.object r.symbol) 0) r.addend moved) (sym at.numbered)
