use Rattle.std.proofs.Common.{◌++◌, ◌∷◌, ◌∙◌, ◌<◌, ◌^◌, [], map, ap, sym, subst, append-nil}
use Rattle.std.specs.Prelude.{IfSome}
use Rattle.std.proofs.lemmas.List.{map-append}
use Rattle.rv_map_laws.specs.Globals.{global}
use Rattle.rv_map.specs.Views.{global_of}
use Rattle.rv_addresses.specs.Shown.{listed}
use Rattle.rv_addresses.proofs.KnownLemmas.{one_known}
use Rattle.rv_addresses.proofs.resolution.Resolution.put_global.Goals as goal

pub returns-in_ok-push-in-Some-clause-known : goal.returns-in_ok-push-in-Some-clause-known
returns-in_ok-push-in-Some-clause-known c = λ before.
    one_known c.args.globals.now.items c.push.new.self.items _ before (subst (λ r. IfSome r (λ p. p.1 < 2 ^ 64)) c.in-Some.is c.shown_at.ensures.fits) c.in_ok-push-in-Some.ensures.items

pub returns-in_ok-push-in-Some-clause-added : goal.returns-in_ok-push-in-Some-clause-added
returns-in_ok-push-in-Some-clause-added c = λ bounds o s stands at there.
    let items = c.args.globals.now.items in
    let old = map global_of items in
    ap (map global_of) c.in_ok-push-in-Some.ensures.items ∙ map-append global_of items (_ ∷ [])
    ∙ ap (λ n. old ++ global n c.in-Some.address ∷ []) c.in_ok-name-in-Some.ensures.items
    ∙ ap (λ l. old ++ l) (ap listed (sym c.in-Some.is) ∙ c.shown_at.ensures.shown bounds o s stands at there)

pub returns-in-None-clause-added : goal.returns-in-None-clause-added
returns-in-None-clause-added c = λ bounds o s stands at there.
    let old = map global_of c.args.globals.now.items in
    sym (append-nil old) ∙ ap (λ l. old ++ l) (ap listed (sym c.in-None.is) ∙ c.shown_at.ensures.shown bounds o s stands at there)
