use Rattle.std.proofs.Common.{◌∙◌, ◌∷◌, ◌++◌, [], map, ap, sym, append-nil, arith}
use Rattle.std.specs.Prelude.{cond, not}
use Rattle.std.proofs.lemmas.List.{map-append}
use Rattle.rv_map.specs.Views.{global_of}
use Rattle.rv_map_laws.specs.Globals.{global}
use Rattle.rv_shorten.specs.View.{short_object_of}
use Rattle.rv_addresses.proofs.AddingLemmas.{is_taken}
use Rattle.rv_addresses.proofs.KnownLemmas.{one_known}
use Rattle.rv_addresses.proofs.resolution.Resolution.put_linker_symbol.Goals as goal

pub returns-then-is_some-clause-added : goal.returns-then-is_some-clause-added
returns-then-is_some-clause-added c =
    let t = c.args.self.now in
    let os = map short_object_of t.objects.now in
    let old = map global_of c.args.globals.now.items in
    let g = global c.args.name.now c.args.address in
    let taken = is_taken os c.args.name.now c.named.result _ (c.named.ensures os t.named) (sym c.is_some.ensures ∙ c.if-is_some.true) in
    sym (append-nil old) ∙ ap (λ b. old ++ cond (not b) (g ∷ []) []) (sym taken)

pub returns-clause-known : goal.returns-clause-known
returns-clause-known c = λ before.
    one_known c.args.globals.now.items c.push.new.self.items _ before (omega arith) c.in_ok-push.ensures.items

pub returns-clause-added : goal.returns-clause-added
returns-clause-added c =
    let t = c.args.self.now in
    let os = map short_object_of t.objects.now in
    let items = c.args.globals.now.items in
    let old = map global_of items in
    let g = global c.args.name.now c.args.address in
    let free = is_taken os c.args.name.now c.named.result _ (c.named.ensures os t.named) (sym c.is_some.ensures ∙ c.if-is_some.false) in
    ap (map global_of) c.in_ok-push.ensures.items ∙ map-append global_of items (_ ∷ [])
    ∙ ap (λ n. old ++ global n c.args.address ∷ []) c.in_ok-name.ensures.items
    ∙ ap (λ b. old ++ cond (not b) (g ∷ []) []) (sym free)
