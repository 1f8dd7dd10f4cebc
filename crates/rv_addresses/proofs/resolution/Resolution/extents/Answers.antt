use Rattle.std.proofs.Common.{◌≡◌, ◌<◌, ◌≤◌, ◌++◌, ◌∷◌, [], Some, Option, option_map, List, length, map, get_or, slice_get, rules, ap, sym, subst, ◌∙◌, refl}
use Rattle.std.specs.Global.{Vec}
use Rattle.std.proofs.lemmas.List.{length-map, get_or_default, map_push}
use Rattle.std.proofs.lemmas.Option.{slice_get_read}
use Rattle.rv_list_laws.proofs.MapLemmas.{get_map_read}
use Rattle.rv_link_laws.specs.Layout.{outer_in}
use Rattle.rv_placement.specs.Placement.{starts_of, layout_of}
use Rattle.rv_shorten.specs.View.{short_object_of}
use Rattle.rv_addresses.specs.Ended.{short_ended, short_ended_from}
use Rattle.rv_addresses.specs.Extents.{sizes_in}
use Rattle.rv_addresses.specs.declared.extents.SymbolExtent.{SymbolExtent}
use Rattle.rv_addresses.proofs.EndsLemmas.{file_there}
use Rattle.rv_addresses.proofs.ReachLemmas.{file_more, files_done}
use Rattle.rv_addresses.proofs.resolution.Resolution.extents.Goals as goal

pub loop-file-preserved : goal.loop-file-preserved
loop-file-preserved c = λ bounds stands.
    let i = c.loop-file.file in
    let sizes = sizes_in c.args.sizes.now in
    let xs = c.args.self.now.objects.now in
    let os = map short_object_of xs in
    let es = short_ended_from sizes 0 xs in
    let p = c.args.placement.now in
    let inside : i < length xs = search rules in
    let x = get_or xs i c.index-self-file.result in
    let same : x ≡ get_or xs i x = get_or_default xs i c.index-self-file.result x inside in
    let here : slice_get os i ≡ Some (short_object_of x) = get_map_read short_object_of xs i x inside same in
    let there : slice_get es i ≡ Some (short_ended (sizes i) x) = file_there sizes xs i ∙ ap (option_map (short_ended (sizes i))) (slice_get_read xs (length xs) i x refl inside same) in
    let pushed : map (λ row. row.items) c.push.new.self.items ≡ map (λ row. row.items) c.loop-file.files.items ++ c.in_ok-row.row.items ∷ [] =
    ap (map (λ (row : Vec (Option SymbolExtent)). row.items)) c.in_ok-push.ensures.items ∙ map_push (λ (row : Vec (Option SymbolExtent)). row.items) c.loop-file.files.items c.in_ok-row.row in
    file_more (outer_in os (layout_of p)) (outer_in es (layout_of p)) (starts_of p) os es i (short_object_of x) (short_ended (sizes i) x) (map (λ row. row.items) c.loop-file.files.items) (map (λ row. row.items) c.push.new.self.items) _
    c.in_ok-row.row.items here there (c.in_ok-row.ensures bounds stands here there) pushed (c.loop-file.invariant bounds stands)

pub returns : goal.returns
returns c = λ bounds stands.
    let n = c.loop-file.file in
    let xs = c.args.self.now.objects.now in
    let os = map short_object_of xs in
    let es = short_ended_from (sizes_in c.args.sizes.now) 0 xs in
    let p = c.args.placement.now in
    let past : length os ≤ n = subst (λ k. k ≤ n) (sym (length-map xs short_object_of)) (search rules) in
    files_done (outer_in os (layout_of p)) (outer_in es (layout_of p)) (starts_of p) os es n (map (λ row. row.items) c.loop-file.files.items) _ past (c.loop-file.invariant bounds stands)
