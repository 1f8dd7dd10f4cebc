use Rattle.std.proofs.Common.{◌≡◌, ◌<◌, ◌≤◌, ◌++◌, ◌∙◌, [], Some, length, map, get_or, rules, sym, subst, append-nil}
use Rattle.std.specs.List.{slice_get}
use Rattle.std.proofs.lemmas.List.{at_drop_all}
use Rattle.std.proofs.lemmas.Option.{slice_get-get_or}
use Rattle.rv_map.specs.Views.{global_of}
use Rattle.rv_object_laws.specs.declared.symbol.Binding.TheVariants as bindings
use Rattle.rv_object_laws.specs.declared.symbol.Definition.TheVariants as definitions
use Rattle.rv_object_laws.specs.Object.{Symbol}
use Rattle.rv_shorten.specs.View.{short_object_of}
use Rattle.rv_addresses.specs.Shown.{shown_in}
use Rattle.rv_addresses.proofs.AddingLemmas.{symbol_more}
use Rattle.rv_addresses.proofs.CutsLemmas.{many_symbols}
use Rattle.rv_addresses.proofs.resolution.Resolution.put_globals.Goals as goal

abbrev no_symbol : Symbol
no_symbol = record { name = []; binding = bindings.Local; definition = definitions.Undefined }

pub loop-index-preserved : goal.loop-index-preserved
loop-index-preserved c = record {
  known = λ before. c.in_ok-put_global.ensures.known (c.loop-index.invariant.known before);
  added = λ bounds stands at.
      let i = c.loop-index.index in
      let os = map short_object_of c.args.self.now.objects.now in
      let x = c.args.object.now in
      let o = short_object_of x in
      let whole : i < length x.whole.now.symbols.items = search rules in
      let inside : i < length o.symbols = subst (λ n. i < n) (sym (many_symbols x)) whole in
      let s = get_or o.symbols i no_symbol in
      let there : slice_get o.symbols i ≡ Some s = slice_get-get_or o.symbols i no_symbol inside in
      symbol_more os c.args.placement.now c.args.file.0 o i s (map global_of c.loop-index.globals.items) (map global_of c.put_global.new.globals.items) _ there (c.loop-index.invariant.added bounds stands at)
      (c.in_ok-put_global.ensures.added bounds o s stands at there);
}

pub returns-clause-known : goal.returns-clause-known
returns-clause-known c = c.loop-index.invariant.known

pub returns-clause-added : goal.returns-clause-added
returns-clause-added c = λ bounds stands at.
    let n = c.loop-index.index in
    let os = map short_object_of c.args.self.now.objects.now in
    let x = c.args.object.now in
    let o = short_object_of x in
    let whole : length x.whole.now.symbols.items ≤ n = search rules in
    let past : length o.symbols ≤ n = subst (λ k. k ≤ n) (sym (many_symbols x)) whole in
    let now = map global_of c.loop-index.globals.items in
    sym (append-nil now) ∙ sym (at_drop_all (λ l. now ++ shown_in os c.args.placement.now c.args.file.0 o n l) o.symbols n past) ∙ c.loop-index.invariant.added bounds stands at
