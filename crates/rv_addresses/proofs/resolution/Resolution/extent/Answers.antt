use Rattle.std.proofs.Common.{◌+◌, ◌-◌, ℕ, Some, ap, ◌∙◌}
use Rattle.std.specs.Prelude.{option_and_then, unwrap_or}
use Rattle.std.specs.List.{slice_get}
use Rattle.rv_link_laws.specs.Names.{symbol_address}
use Rattle.rv_link_laws.specs.Layout.{outer_in}
use Rattle.rv_placement.specs.Placement.{starts_of, layout_of}
use Rattle.rv_addresses.specs.Ended.{short_ended_from}
use Rattle.rv_addresses.specs.Extents.{sizes_in, extent}
use Rattle.rv_addresses.specs.declared.extents.SymbolExtent.{SymbolExtent}
use Rattle.rv_addresses.proofs.resolution.Resolution.extent.Goals as goal

pub returns-in_err-address : goal.returns-in_err-address
returns-in_err-address c = λ bounds o e stands at there.
    let ends = short_ended_from (sizes_in c.args.sizes.now) 0 c.args.self.now.objects.now in
    let p = c.args.placement.now in
    let stop = option_and_then (symbol_address (outer_in ends (layout_of p)) (starts_of p (c.args.file.0 + 1)) e) (slice_get e.symbols c.args.index.0) in
    c.from_residual.ensures ∙ ap (λ f. extent f stop) (c.in_err-address.ensures bounds o stands at)

pub returns : goal.returns
returns c = λ bounds o e stands at there.
    let ends = short_ended_from (sizes_in c.args.sizes.now) 0 c.args.self.now.objects.now in
    let p = c.args.placement.now in
    let a = c.in_ok-address.address in
    let stop = option_and_then (symbol_address (outer_in ends (layout_of p)) (starts_of p (c.args.file.0 + 1)) e) (slice_get e.symbols c.args.index.0) in
    let reach : ℕ → SymbolExtent = λ n. record { address = a; size = n } in
    ap (λ n. Some (reach n)) (c.saturating_sub.ensures ∙ ap (λ m. m - a) (c.unwrap_or-end.ensures ∙ ap (λ f. unwrap_or f a) (c.end.ensures bounds e stands there)))
    ∙ ap (λ f. extent f stop) (c.in_ok-address.ensures bounds o stands at)
