use Rattle.std.proofs.Common.{◌≡◌, Some, length, map, option_map, slice_get, refl, sym, ap, ◌∙◌}
use Rattle.std.proofs.lemmas.Option.{slice_get-map, slice_get_read}
use Rattle.rv_object_types.specs.Parts.{symbol_of}
use Rattle.rv_object_types.specs.View.{object_of}
use Rattle.rv_names.specs.Chosen.{first_named}
use Rattle.rv_names.specs.Names.{exported_of}
use Rattle.rv_names.proofs.RememberedLemmas.{known_is}
use Rattle.rv_names.proofs.meanings.known.Goals as goal

pub returns : goal.returns
returns c = λ ds has.
    let os = c.args.objects.now in
    let rows = c.args.rows.now in
    let file = c.args.at.0.0 in
    let index = c.args.at.1.0 in
    let row = c.in_ok-row.row.now in
    let found = c.in_ok-found.found.now in
    let o = c.in_ok-object.object.now in
    let s = c.in_ok-symbol.symbol.now in
    let r = c.in_ok-row.ensures.lookup in
    let f = c.in_ok-found.ensures.lookup in
    let p = c.in_ok-object.ensures.lookup in
    let q = c.in_ok-symbol.ensures.lookup in
    let row_at : slice_get rows file ≡ Some row = slice_get_read rows (length rows) file row refl r.3.0 r.1 in
    let cells = c.deref.result.now in
    let found_at : slice_get row.items index ≡ Some found =
    ap (λ l. slice_get l index) (sym c.deref.ensures.value) ∙ slice_get_read cells (length cells) index found refl f.3.0 f.1 in
    let object_at : slice_get (map object_of os) file ≡ Some (object_of o) =
    slice_get-map object_of os file ∙ ap (option_map object_of) (slice_get_read os (length os) file o refl p.3.0 p.1) in
    let symbols = c.deref-2.result.now in
    let symbol_at : slice_get (map symbol_of o.symbols.items) index ≡ Some (symbol_of s) =
    slice_get-map symbol_of o.symbols.items index
    ∙ ap (option_map symbol_of) (ap (λ l. slice_get l index) (sym c.deref-2.ensures.value) ∙ slice_get_read symbols (length symbols) index s refl q.3.0 q.1) in
    known_is ds (map object_of os) rows file index row found (object_of o) (symbol_of s) has row_at found_at object_at symbol_at
    (sym c.is_sure.ensures ∙ c.if-is_sure.false)
    ∙ ap (λ n. option_map exported_of (first_named ds n)) (c.is_same.ensures c.if-not-is_same.false)
