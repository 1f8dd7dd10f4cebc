use Rattle.std.proofs.Common.{◌≡◌, ◌+◌, Some, length, map, option_map, refl, ap, sym, ◌∙◌}
use Rattle.std.specs.Prelude.{option_and_then}
use Rattle.std.specs.List.{slice_get}
use Rattle.std.proofs.lemmas.Option.{slice_get-map, slice_get_read}
use Rattle.rv_object_laws.specs.Object.{Object}
use Rattle.rv_object_types.specs.Parts.{symbol_of}
use Rattle.rv_object_types.specs.View.{object_of}
use Rattle.rv_link_laws.specs.Names.{symbol_place}
use Rattle.rv_link_sites.specs.Text.{objects_of}
use Rattle.rv_link_sites.proofs.text.Text.place.Goals as goal

pub returns : goal.returns
returns c = λ o at.
    let os = objects_of c.args.self.now in
    let xs = c.args.self.now.objects.now in
    let x = c.in_ok-object.object.now in
    let s = symbol_of c.in_ok-symbol.symbol.now in
    let i = c.args.index.0 in
    let file = c.in_ok-object.ensures.lookup in
    let symbol = c.in_ok-symbol.ensures.lookup in
    let same : Some (object_of x) ≡ Some o = sym (slice_get-map object_of xs c.args.file.0 ∙ ap (option_map object_of) (slice_get_read xs (length xs) c.args.file.0 x refl file.3.0 file.1)) ∙ at in
    let own : object_of x ≡ o = cc in
    let there : slice_get o.symbols i ≡ Some s =
    ap (λ (p : Object). slice_get p.symbols i) (sym own) ∙ ap (λ l. slice_get (map symbol_of l) i) (sym c.deref.ensures.value) ∙ slice_get-map symbol_of c.deref.result.now i
    ∙ ap (option_map symbol_of) (slice_get_read c.deref.result.now (length c.deref.result.now) i c.in_ok-symbol.symbol.now refl symbol.3.0 symbol.1) in
    c.place_of.ensures o s c.requires.names at there refl refl ∙ ap (option_and_then (symbol_place os (c.args.file.0 + 1))) (sym there)
