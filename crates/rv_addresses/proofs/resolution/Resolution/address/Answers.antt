use Rattle.std.proofs.Common.{◌≡◌, ◌+◌, Some, map, refl, ap, sym, ◌∙◌}
use Rattle.std.specs.Prelude.{option_and_then}
use Rattle.std.specs.List.{slice_get}
use Rattle.rv_link_laws.specs.Names.{symbol_address}
use Rattle.rv_link_laws.specs.Layout.{outer_in, regions_of}
use Rattle.rv_placement.specs.Placement.{starts_of, layout_of}
use Rattle.rv_shorten.specs.View.{short_object_of}
use Rattle.rv_addresses.specs.Moved.{with_definition}
use Rattle.rv_addresses.proofs.MeantLemmas.{is_meant, address_none}
use Rattle.rv_addresses.proofs.resolution.Resolution.address.Goals as goal

pub returns-in_err-symbol : goal.returns-in_err-symbol
returns-in_err-symbol c = λ bounds o stands at.
    let os = map short_object_of c.args.self.now.objects.now in
    let p = c.args.placement.now in
    c.from_residual.ensures ∙ ap (option_and_then (symbol_address (outer_in os (layout_of p)) (starts_of p (c.args.file.0 + 1)) o)) (c.in_err-symbol.ensures o at)

pub returns-in-Some : goal.returns-in-Some
returns-in-Some c = λ bounds o stands at.
    let os = map short_object_of c.args.self.now.objects.now in
    let p = c.args.placement.now in
    let s = with_definition (c.in_ok-symbol.symbol, c.in_ok-symbol.definition) in
    let there : Some s ≡ slice_get o.symbols c.args.index.0 = c.in_ok-symbol.ensures o at in
    let m = is_meant os c.args.file.0 o s at c.in-Some.meant (sym (c.meant.ensures o s at (sym there) refl refl) ∙ c.in-Some.is) in
    c.defined_address.ensures bounds m.holder stands m.at ∙ sym (m.address (starts_of p) (regions_of (layout_of p)))
    ∙ ap (option_and_then (symbol_address (outer_in os (layout_of p)) (starts_of p (c.args.file.0 + 1)) o)) there

pub returns-in-None : goal.returns-in-None
returns-in-None c = λ bounds o stands at.
    let os = map short_object_of c.args.self.now.objects.now in
    let p = c.args.placement.now in
    let s = with_definition (c.in_ok-symbol.symbol, c.in_ok-symbol.definition) in
    let there : Some s ≡ slice_get o.symbols c.args.index.0 = c.in_ok-symbol.ensures o at in
    c.undefined_address.ensures os bounds stands
    ∙ sym (address_none os c.args.file.0 o s (sym (c.meant.ensures o s at (sym there) refl refl) ∙ c.in-None.is) (starts_of p) (regions_of (layout_of p)))
    ∙ ap (option_and_then (symbol_address (outer_in os (layout_of p)) (starts_of p (c.args.file.0 + 1)) o)) there
