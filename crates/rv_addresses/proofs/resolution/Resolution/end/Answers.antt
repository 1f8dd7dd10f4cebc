use Rattle.std.proofs.Common.{◌≡◌, ◌+◌, Some, map, refl, ap, sym, ◌∙◌}
use Rattle.std.specs.Prelude.{option_and_then}
use Rattle.std.specs.List.{slice_get}
use Rattle.rv_link_laws.specs.Names.{symbol_address}
use Rattle.rv_link_laws.specs.Layout.{outer_in, regions_of}
use Rattle.rv_placement.specs.Placement.{starts_of, layout_of}
use Rattle.rv_shorten.specs.View.{short_object_of}
use Rattle.rv_addresses.specs.Ended.{short_ended_from}
use Rattle.rv_addresses.specs.Extents.{sizes_in}
use Rattle.rv_addresses.specs.Moved.{with_definition}
use Rattle.rv_addresses.proofs.EndsLemmas.{is_over, same_address}
use Rattle.rv_addresses.proofs.MeantLemmas.{is_meant, address_none}
use Rattle.rv_addresses.proofs.resolution.Resolution.end.Goals as goal

pub returns-in_err-symbol : goal.returns-in_err-symbol
returns-in_err-symbol c = λ bounds e stands at.
    let ends = short_ended_from (sizes_in c.args.sizes.now) 0 c.args.self.now.objects.now in
    let p = c.args.placement.now in
    c.from_residual.ensures ∙ ap (option_and_then (symbol_address (outer_in ends (layout_of p)) (starts_of p (c.args.file.0 + 1)) e)) (c.in_err-symbol.ensures e at)

pub returns-in-Some : goal.returns-in-Some
returns-in-Some c = λ bounds e stands at.
    let sizes = sizes_in c.args.sizes.now in
    let xs = c.args.self.now.objects.now in
    let ends = short_ended_from sizes 0 xs in
    let p = c.args.placement.now in
    let x = c.in-Some.meant in
    let s = with_definition (c.in_ok-symbol.symbol, c.in_ok-symbol.end) in
    let there : Some s ≡ slice_get e.symbols c.args.index.0 = c.in_ok-symbol.ensures e at in
    let m = is_meant ends c.args.file.0 e s at x (sym (c.meant_end.ensures e s at (sym there) refl refl) ∙ c.in-Some.is) in
    let over = is_over sizes xs x.file.0 m.holder m.at in
    c.defined_address.ensures bounds over.object stands over.at
    ∙ same_address (starts_of p (x.file.0 + 1)) m.holder over.object over.sections x.definition
    ∙ sym (m.address (starts_of p) (regions_of (layout_of p)))
    ∙ ap (option_and_then (symbol_address (outer_in ends (layout_of p)) (starts_of p (c.args.file.0 + 1)) e)) there

pub returns-in-None : goal.returns-in-None
returns-in-None c = λ bounds e stands at.
    let ends = short_ended_from (sizes_in c.args.sizes.now) 0 c.args.self.now.objects.now in
    let os = map short_object_of c.args.self.now.objects.now in
    let p = c.args.placement.now in
    let s = with_definition (c.in_ok-symbol.symbol, c.in_ok-symbol.end) in
    let there : Some s ≡ slice_get e.symbols c.args.index.0 = c.in_ok-symbol.ensures e at in
    c.undefined_address.ensures os bounds stands
    ∙ sym (address_none ends c.args.file.0 e s (sym (c.meant_end.ensures e s at (sym there) refl refl) ∙ c.in-None.is) (starts_of p) (regions_of (layout_of p)))
    ∙ ap (option_and_then (symbol_address (outer_in ends (layout_of p)) (starts_of p (c.args.file.0 + 1)) e)) there
