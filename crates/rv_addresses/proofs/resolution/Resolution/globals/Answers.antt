use Rattle.std.proofs.Common.{◌≡◌, ◌<◌, ◌≤◌, ◌++◌, ◌∙◌, length, map, get_or, rules, ap, sym, subst, append-nil}
use Rattle.std.proofs.lemmas.List.{length-map, at_drop_all, get_or_default}
use Rattle.rv_list_laws.proofs.MapLemmas.{get_or_viewed, get_map_read}
use Rattle.rv_map.specs.Views.{global_of}
use Rattle.rv_link_laws.specs.Names.{globals_of, shown_linker_symbols}
use Rattle.rv_link_laws.specs.Layout.{regions_of}
use Rattle.rv_placement.specs.Placement.{starts_of, layout_of}
use Rattle.rv_shorten.specs.View.{short_object_of}
use Rattle.rv_addresses.proofs.AddingLemmas.{files_shown, file_more}
use Rattle.rv_addresses.proofs.resolution.Resolution.globals.Goals as goal

pub loop-file-preserved : goal.loop-file-preserved
loop-file-preserved c = record {
  known = c.in_ok-put_globals.ensures.known c.loop-file.invariant.known;
  shown = λ bounds stands.
      let i = c.loop-file.file in
      let xs = c.args.self.now.objects.now in
      let os = map short_object_of xs in
      let inside : i < length xs = search rules in
      let x = get_or xs i c.index-self-file.result in
      let same : x ≡ get_or xs i x = get_or_default xs i c.index-self-file.result x inside in
      let o = short_object_of x in
      let inside' : i < length os = subst (λ n. i < n) (sym (length-map xs short_object_of)) inside in
      let is : o ≡ get_or os i o = get_or_viewed short_object_of xs i x inside same in
      file_more os c.args.placement.now i o (map global_of c.loop-file.globals.items) (map global_of c.put_globals.new.globals.items) _ inside' is (c.loop-file.invariant.shown bounds stands)
      (c.in_ok-put_globals.ensures.added bounds stands (get_map_read short_object_of xs i x inside same));
}

pub returns-clause-known : goal.returns-clause-known
returns-clause-known c = c.in_ok-put_linker_symbols.ensures.known c.loop-file.invariant.known

pub returns-clause-shown : goal.returns-clause-shown
returns-clause-shown c = λ bounds stands.
    let n = c.loop-file.file in
    let xs = c.args.self.now.objects.now in
    let os = map short_object_of xs in
    let p = c.args.placement.now in
    let past : length os ≤ n = subst (λ k. k ≤ n) (sym (length-map xs short_object_of)) (search rules) in
    let old = map global_of c.loop-file.globals.items in
    let all : old ≡ globals_of (starts_of p) os = sym (append-nil old) ∙ sym (at_drop_all (λ l. old ++ files_shown os p n l) os n past) ∙ c.loop-file.invariant.shown bounds stands in
    c.in_ok-put_linker_symbols.ensures.added bounds stands ∙ ap (λ l. l ++ shown_linker_symbols os (regions_of (layout_of p))) all
