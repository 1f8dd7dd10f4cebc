use Rattle.std.proofs.Common.{◌≡◌, ◌+◌, ◌∙◌, suc, Some, length, map, option_map, refl, rules, arith, ap, sym}
use Rattle.std.specs.Prelude.{option_and_then}
use Rattle.std.specs.List.{slice_get}
use Rattle.std.proofs.lemmas.Option.{slice_get-map, slice_get_read}
use Rattle.rv_object_types.specs.Parts.{symbol_of}
use Rattle.rv_object_types.specs.View.{object_of}
use Rattle.rv_link_laws.specs.Names.{symbol_place}
use Rattle.rv_collect.proofs.walk.target.Goals as goal

pub returns : goal.returns
returns c = λ names at.
    let os = map object_of c.args.objects.now in
    let file = c.args.file.0 in
    let o = object_of c.args.object.now in
    let i = c.in_ok-index.index in
    let is : c.args.relocation.now.symbol ≡ Some i = search rules in
    let s = symbol_of c.in_ok-symbol.symbol.now in
    let symbol = c.in_ok-symbol.ensures.lookup in
    let there : slice_get o.symbols i ≡ Some s =
    ap (λ l. slice_get (map symbol_of l) i) (sym c.deref.ensures.value) ∙ slice_get-map symbol_of c.deref.result.now i
    ∙ ap (option_map symbol_of) (slice_get_read c.deref.result.now (length c.deref.result.now) i c.in_ok-symbol.symbol.now refl symbol.3.0 symbol.1) in
    let e : file + 1 ≡ suc file = omega arith in
    c.place_of.ensures o s names at there refl refl
    ∙ ap (λ n. symbol_place os n s) e
    ∙ sym
    (ap (option_and_then (λ index. option_and_then (symbol_place os (suc file)) (slice_get o.symbols index))) is
    ∙ ap (option_and_then (symbol_place os (suc file))) there)
