use Rattle.std.proofs.Common.{◌≡◌, ◌∙◌, Some, None, map, ap, sym}
use Rattle.std.specs.Prelude.{option_map}
use Rattle.std.specs.List.{slice_get}
use Rattle.std.proofs.lemmas.Option.{slice_get-map, slice_get_past}
use Rattle.rv_list_laws.proofs.ElementsLemmas.{get_read}
use Rattle.rv_object_types.specs.Parts.{symbol_of}
use Rattle.rv_object_types.specs.View.{object_of}
use Rattle.rv_typed_objects.specs.Typed.{typed_by, typed_record}
use Rattle.rv_typed_objects.proofs.record.typed_record.Goals as goal

pub returns-in-Some : goal.returns-in-Some
returns-in-Some c = λ marks are.
    let o = object_of c.args.object.now in
    let xs = c.as_slice.result.now in
    let x = c.in-Some.symbol.now in
    let lookup = c.in-Some.ensures.lookup in
    let here : slice_get o.symbols c.args.index ≡ Some (symbol_of x) =
    ap (λ l. slice_get (map symbol_of l) c.args.index) (sym c.as_slice.ensures.value) ∙ slice_get-map symbol_of xs c.args.index
    ∙ ap (option_map symbol_of) (get_read xs c.args.index x lookup.3.0 lookup.1) in
    c.typed_by.ensures
    ∙ (λ i. typed_by (c.as_slice-in-Some.ensures.value i) x.definition (c.said_of.ensures marks are i) c.args.entry.now)
    ∙ ap (typed_record o marks c.args.entry.now) (sym here)

pub returns-in-None : goal.returns-in-None
returns-in-None c = λ marks are.
    let o = object_of c.args.object.now in
    let xs = c.as_slice.result.now in
    let here : slice_get o.symbols c.args.index ≡ None =
    ap (λ l. slice_get (map symbol_of l) c.args.index) (sym c.as_slice.ensures.value) ∙ slice_get-map symbol_of xs c.args.index
    ∙ ap (option_map symbol_of) (slice_get_past xs c.args.index c.in-None.ensures.lookup.3) in
    ap (typed_record o marks c.args.entry.now) (sym here)
