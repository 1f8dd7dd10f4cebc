use Rattle.std.proofs.Common.{◌<◌, ◌≤◌, ◌+◌, length, map, rules, sym, subst}
use Rattle.rv_link_laws.specs.Names.{symbol_address}
use Rattle.rv_link_laws.specs.Layout.{outer_in}
use Rattle.rv_placement.specs.Placement.{starts_of, layout_of}
use Rattle.rv_shorten.specs.View.{short_object_of}
use Rattle.rv_addresses.specs.Ended.{short_ended, short_ended_from}
use Rattle.rv_addresses.specs.Extents.{sizes_in}
use Rattle.rv_addresses.proofs.CutsLemmas.{many_symbols}
use Rattle.rv_addresses.proofs.ReachLemmas.{many_ends, symbol_more, symbols_done}
use Rattle.rv_addresses.proofs.resolution.Resolution.file_extents.Goals as goal

pub loop-index-preserved : goal.loop-index-preserved
loop-index-preserved c = λ bounds stands at there.
    let i = c.loop-index.index in
    let sizes = sizes_in c.args.sizes.now in
    let xs = c.args.self.now.objects.now in
    let p = c.args.placement.now in
    let x = c.args.object.now in
    let o = short_object_of x in
    let e = short_ended (sizes c.args.file.0) x in
    let own = symbol_address (outer_in (map short_object_of xs) (layout_of p)) (starts_of p (c.args.file.0 + 1)) o in
    let ends = symbol_address (outer_in (short_ended_from sizes 0 xs) (layout_of p)) (starts_of p (c.args.file.0 + 1)) e in
    let whole : i < length x.whole.now.symbols.items = search rules in
    let inside : i < length o.symbols = subst (λ n. i < n) (sym (many_symbols x)) whole in
    let at_ends : i < length e.symbols = subst (λ n. i < n) (sym (many_ends (sizes c.args.file.0) x)) whole in
    symbol_more own ends o.symbols e.symbols i c.loop-index.extents.items c.push.new.self.items _ c.extent.result inside at_ends (c.extent.ensures bounds o e stands at there) c.in_ok-push.ensures.items
    (c.loop-index.invariant bounds stands at there)

pub returns : goal.returns
returns c = λ bounds stands at there.
    let i = c.loop-index.index in
    let sizes = sizes_in c.args.sizes.now in
    let xs = c.args.self.now.objects.now in
    let p = c.args.placement.now in
    let x = c.args.object.now in
    let o = short_object_of x in
    let e = short_ended (sizes c.args.file.0) x in
    let own = symbol_address (outer_in (map short_object_of xs) (layout_of p)) (starts_of p (c.args.file.0 + 1)) o in
    let ends = symbol_address (outer_in (short_ended_from sizes 0 xs) (layout_of p)) (starts_of p (c.args.file.0 + 1)) e in
    let whole : length x.whole.now.symbols.items ≤ i = search rules in
    let past : length o.symbols ≤ i = subst (λ n. n ≤ i) (sym (many_symbols x)) whole in
    symbols_done own ends o.symbols e.symbols i c.loop-index.extents.items _ past (c.loop-index.invariant bounds stands at there)
