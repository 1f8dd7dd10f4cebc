use Rattle.std.proofs.Common.{◌≡◌, Some, length, map, Option, option_map, refl, ap, sym, ◌∙◌}
use Rattle.std.specs.List.{slice_get}
use Rattle.std.proofs.lemmas.Option.{slice_get-map, slice_get_read}
use Rattle.rv_object_laws.specs.Object.{Symbol, Object}
use Rattle.rv_object_types.specs.Parts.{symbol_of}
use Rattle.rv_object_types.specs.View.{object_of}
use Rattle.rv_link_laws.specs.Names.{place_in}
use Rattle.rv_names.proofs.places.place_at.Goals as goal

pub returns : goal.returns
returns c = λ e at.
    let xs = c.args.objects.now in
    let x = c.in_ok-object.object.now in
    let s = symbol_of c.in_ok-symbol.symbol.now in
    let i = c.args.exported.symbol.0 in
    let file = c.in_ok-object.ensures.lookup in
    let symbol = c.in_ok-symbol.ensures.lookup in
    let same : Some (object_of x) ≡ Some e.object =
    sym (slice_get-map object_of xs c.args.exported.file.0 ∙ ap (option_map object_of) (slice_get_read xs (length xs) c.args.exported.file.0 x refl file.3.0 file.1)) ∙ at.object in
    let own : object_of x ≡ e.object = cc in
    let there : slice_get e.object.symbols i ≡ Some s =
    ap (λ (p : Object). slice_get p.symbols i) (sym own) ∙ ap (λ l. slice_get (map symbol_of l) i) (sym c.deref.ensures.value) ∙ slice_get-map symbol_of c.deref.result.now i
    ∙ ap (option_map symbol_of) (slice_get_read c.deref.result.now (length c.deref.result.now) i c.in_ok-symbol.symbol.now refl symbol.3.0 symbol.1) in
    let it : ◌≡◌ {A = Option Symbol} (Some s) (Some e.symbol) = sym there ∙ at.symbol in
    let one : s ≡ e.symbol = cc in
    c.placed.ensures ∙ ap (λ n. place_in n s.definition) at.file ∙ ap (λ (q : Symbol). place_in e.file q.definition) one
