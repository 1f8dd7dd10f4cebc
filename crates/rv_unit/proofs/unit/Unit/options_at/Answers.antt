use Rattle.std.proofs.Common.{◌≡◌, ◌<◌, ◌∙◌, nat_lt, true, false, length, get_or, sym, ap, subst}
use Rattle.std.proofs.lemmas.Bool.{lt-ltb}
use Rattle.rv_unit.proofs.StandingLemmas.{options_found, options_count}
use Rattle.rv_unit.proofs.unit.Unit.options_at.Goals as goal

pub returns-in-Some : goal.returns-in-Some
returns-in-Some c = λ inside.
    let o = c.in-Some.options.now in
    options_found c.args.self.now c.args.index o o c.args.self.now.filled inside (c.in-Some.ensures.lookup.1 ∙ ap (λ l. get_or l c.args.index o) c.deref.ensures.value)

pub returns-in-None : goal.returns-in-None
returns-in-None c = λ inside.
    let u = c.args.self.now in
    let i = c.args.index in
    let below : i < length u.options.items = subst (λ n. i < n) (sym (options_count u u.filled)) inside in
    let there : nat_lt i (length u.options.items) ≡ true = lt-ltb i (length u.options.items) below in
    let missed : false ≡ nat_lt i (length u.options.items) = c.in-None.ensures.lookup.0 ∙ ap (λ l. nat_lt i (length l)) c.deref.ensures.value in
    absurd (cc)
