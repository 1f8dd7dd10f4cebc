use Rattle.std.proofs.Common.{◌≡◌, Option, Some, None, sym, ap, ◌∙◌}
use Rattle.std.specs.Prelude.{option_copied, slice_get, option_map}
use Rattle.std.proofs.lemmas.Option.{slice_get-map}
use Rattle.rv_unit.specs.declared.item.Item.{Item}
use Rattle.rv_unit.specs.Items.{offsets_of}
use Rattle.rv_symbols.proofs.StandsLemmas.{both, got, place_of}
use Rattle.rv_symbols.proofs.source.Source.place.Goals as goal

pub returns-in_default : goal.returns-in_default
returns-in_default c = λ laid h.
    let i = c.args.index in
    let x = c.args.self.now in
    let none : None ≡ slice_get x.unit.now.places.items i = ap option_copied (sym c.in_default.is) ∙ got c.get.result c.places.result.now i c.get.ensures.lookup.0 c.get.ensures.lookup.1 ∙ ap (λ l. slice_get l i) c.places.ensures in
    ap (λ p. both p (slice_get (offsets_of x.items.now) i)) none ∙ place_of x laid h i

pub returns-in_default-get : goal.returns-in_default-get
returns-in_default-get c = λ laid h.
    let i = c.args.index in
    let x = c.args.self.now in
    let p = c.in-Some.place.now in
    let some : Some p ≡ slice_get x.unit.now.places.items i = ap option_copied (sym c.in-Some.is) ∙ got c.get.result c.places.result.now i c.get.ensures.lookup.0 c.get.ensures.lookup.1 ∙ ap (λ l. slice_get l i) c.places.ensures in
    let none : None ≡ slice_get x.items.now i = ap option_copied (sym c.in_default-get.is) ∙ got c.get-2.result x.items.now i c.get-2.ensures.lookup.0 c.get-2.ensures.lookup.1 in
    ap (λ (o : Option Item). both (Some p) (option_map (λ (z : Item). z.offset) o)) none ∙ ap (λ o. both (Some p) o) (sym (slice_get-map (λ (z : Item). z.offset) x.items.now i))
    ∙ ap (λ q. both q (slice_get (offsets_of x.items.now) i)) some ∙ place_of x laid h i

pub returns : goal.returns
returns c = λ laid h.
    let i = c.args.index in
    let x = c.args.self.now in
    let p = c.in-Some.place.now in
    let some : Some p ≡ slice_get x.unit.now.places.items i = ap option_copied (sym c.in-Some.is) ∙ got c.get.result c.places.result.now i c.get.ensures.lookup.0 c.get.ensures.lookup.1 ∙ ap (λ l. slice_get l i) c.places.ensures in
    let at : Some c.in-Some-get.item.now ≡ slice_get x.items.now i = ap option_copied (sym c.in-Some-get.is) ∙ got c.get-2.result x.items.now i c.get-2.ensures.lookup.0 c.get-2.ensures.lookup.1 in
    ap (λ n. Some (p.section, n)) c.from.ensures ∙ ap (λ (o : Option Item). both (Some p) (option_map (λ (z : Item). z.offset) o)) at ∙ ap (λ o. both (Some p) o) (sym (slice_get-map (λ (z : Item). z.offset) x.items.now i))
    ∙ ap (λ q. both q (slice_get (offsets_of x.items.now) i)) some ∙ place_of x laid h i
