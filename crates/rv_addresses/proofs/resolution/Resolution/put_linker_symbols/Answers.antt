use Rattle.std.proofs.Common.{◌∷◌, ◌++◌, ◌∙◌, [], Bool, is_some, ap, map, ◌+◌}
use Rattle.std.specs.Prelude.{not, codes, filter}
use Rattle.rv_list_laws.proofs.FilterLemmas.{filtered_more}
use Rattle.rv_map_laws.specs.Map.{Global}
use Rattle.rv_map.specs.Views.{global_of}
use Rattle.rv_map_laws.specs.Globals.{global}
use Rattle.rv_link_laws.specs.Names.{chosen}
use Rattle.rv_shorten.specs.View.{short_object_of}
use Rattle.rv_addresses.proofs.resolution.Resolution.put_linker_symbols.Goals as goal

pub returns-clause-known : goal.returns-clause-known
returns-clause-known c = λ before.
    c.in_ok-put_linker_symbol-5.ensures.known (c.in_ok-put_linker_symbol-4.ensures.known (c.in_ok-put_linker_symbol-3.ensures.known
    (c.in_ok-put_linker_symbol-2.ensures.known (c.in_ok-put_linker_symbol.ensures.known before))))

pub returns-clause-added : goal.returns-clause-added
returns-clause-added c = λ bounds stands.
    let os = map short_object_of c.args.self.now.objects.now in
    let p : Global → Bool = λ g. not (is_some (chosen os g.name)) in
    let l = c.args.placement.now in
    let old = map global_of c.args.globals.now.items in
    let a = global (codes "_etext") l.text.end in
    let b = global (codes "__bss_start") l.bss.start in
    let d = global (codes "_edata") l.data.end in
    let e = global (codes "_end") l.bss.end in
    let f = global (codes "__global_pointer$") (l.data.start + 0x800) in
    let first = c.in_ok-put_linker_symbol.ensures.added in
    let second = filtered_more p old _ (map global_of c.put_linker_symbol-2.new.globals.items) (a ∷ []) b first c.in_ok-put_linker_symbol-2.ensures.added in
    let third = filtered_more p old _ (map global_of c.put_linker_symbol-3.new.globals.items) (a ∷ b ∷ []) d second c.in_ok-put_linker_symbol-3.ensures.added in
    let before = map global_of c.put_linker_symbol-4.new.globals.items in
    let fourth = filtered_more p old _ before (a ∷ b ∷ d ∷ []) e third c.in_ok-put_linker_symbol-4.ensures.added in
    filtered_more p old _ (map global_of c.put_linker_symbol-5.new.globals.items) (a ∷ b ∷ d ∷ e ∷ []) f fourth
    (c.in_ok-put_linker_symbol-5.ensures.added ∙ ap (λ n. before ++ filter p (global (codes "__global_pointer$") n ∷ [])) (c.global_pointer.ensures os bounds stands))
