use Rattle.std.proofs.Common.{◌≡◌, ◌+◌, Some, map, option_map, refl, ap, sym, ◌∙◌}
use Rattle.std.specs.Prelude.{option_and_then}
use Rattle.std.specs.List.{slice_get}
use Rattle.rv_link_laws.specs.Names.{symbol_place}
use Rattle.rv_object_types.specs.Places.{place_of}
use Rattle.rv_shorten.specs.View.{short_object_of}
use Rattle.rv_addresses.specs.Moved.{with_definition}
use Rattle.rv_addresses.proofs.MeantLemmas.{kept_place, place_meant}
use Rattle.rv_addresses.proofs.resolution.Resolution.place.Goals as goal

pub returns-in_err-symbol : goal.returns-in_err-symbol
returns-in_err-symbol c = λ o at.
    ap (option_map place_of) c.from_residual.ensures
    ∙ ap (option_and_then (symbol_place (map short_object_of c.args.self.now.objects.now) (c.args.file.0 + 1))) (c.in_err-symbol.ensures o at)

pub returns-in-Some : goal.returns-in-Some
returns-in-Some c = λ o at.
    let os = map short_object_of c.args.self.now.objects.now in
    let s = with_definition (c.in_ok-symbol.symbol, c.in_ok-symbol.definition) in
    let there : Some s ≡ slice_get o.symbols c.args.index.0 = c.in_ok-symbol.ensures o at in
    c.placed.ensures ∙ ap (option_and_then kept_place) (sym c.in-Some.is ∙ c.meant.ensures o s at (sym there) refl refl) ∙ place_meant os c.args.file.0 s
    ∙ ap (option_and_then (symbol_place os (c.args.file.0 + 1))) there

pub returns-in-None : goal.returns-in-None
returns-in-None c = λ o at.
    let os = map short_object_of c.args.self.now.objects.now in
    let s = with_definition (c.in_ok-symbol.symbol, c.in_ok-symbol.definition) in
    let there : Some s ≡ slice_get o.symbols c.args.index.0 = c.in_ok-symbol.ensures o at in
    ap (option_and_then kept_place) (sym c.in-None.is ∙ c.meant.ensures o s at (sym there) refl refl) ∙ place_meant os c.args.file.0 s
    ∙ ap (option_and_then (symbol_place os (c.args.file.0 + 1))) there
