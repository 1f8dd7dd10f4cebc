use Rattle.std.proofs.Common.{◌≡◌, Some, length, option_map, refl, ap, sym, ◌∙◌}
use Rattle.std.specs.List.{slice_get}
use Rattle.std.proofs.lemmas.Option.{slice_get-map, slice_get_read}
use Rattle.rv_object_laws.specs.Object.{Object}
use Rattle.rv_object_types.specs.Parts.{symbol_of}
use Rattle.rv_shorten.specs.View.{short_object_of}
use Rattle.rv_addresses.proofs.CutsLemmas.{symbol_there}
use Rattle.rv_addresses.proofs.resolution.symbol_at.Goals as goal

pub returns : goal.returns
returns c = λ o at.
    let xs = c.args.objects.now in
    let x = c.in_ok-object.object.now in
    let file = c.in_ok-object.ensures.lookup in
    let symbol = c.in_ok-symbol.ensures.lookup in
    let same : Some (short_object_of x) ≡ Some o =
    sym (slice_get-map short_object_of xs c.args.file.0 ∙ ap (option_map short_object_of) (slice_get_read xs (length xs) c.args.file.0 x refl file.3.0 file.1)) ∙ at in
    let own : short_object_of x ≡ o = cc in
    ap (λ d. Some (record (symbol_of c.in_ok-symbol.symbol.now) { definition = d })) c.definition.ensures
    ∙ sym (symbol_there x c.deref.result.now c.args.index.0 c.deref.ensures.value c.in_ok-symbol.symbol.now symbol.3.0 symbol.1)
    ∙ ap (λ (p : Object). slice_get p.symbols c.args.index.0) own
