use Rattle.std.proofs.Common.{◌≡◌, ◌+◌, ◌-◌, sym, ap, ◌∙◌, rules}
use Rattle.std.specs.Prelude.{slice_get, unwrap_or}
use Rattle.rv_assemble_laws.specs.Symbols.{laid_at}
use Rattle.rv_symbols.specs.Numbers.{place_number}
use Rattle.rv_symbols.proofs.StandsLemmas.{laid_none, statement_next}
use Rattle.rv_symbols.proofs.IndexingLemmas.{place_by, place_none}
use Rattle.rv_symbols.proofs.numbers.Indices.place_number.Goals as goal

pub returns-then-ordinal-eq0 : goal.returns-then-ordinal-eq0
returns-then-ordinal-eq0 c = λ laid own names h is.
    let zero : c.args.ordinal ≡ 0 = search rules in
    ap (place_number own) (sym (ap (λ n. laid_at laid n) zero ∙ laid_none c.args.self.now.source.now laid h))

pub returns-in-Some : goal.returns-in-Some
returns-in-Some c = λ laid own names h is.
    let more : c.args.ordinal ≡ c.args.ordinal - 1 + 1 = search rules in
    let p = c.in-Some.place in
    c.unwrap_or.ensures ∙ ap (λ o. unwrap_or o 0) (c.copied.ensures ∙ c.get.ensures.value ∙ is.placed p)
    ∙ place_by own (slice_get laid (c.args.ordinal - 1)) p (sym c.in-Some.is ∙ c.place.ensures laid h)
    ∙ ap (place_number own) (sym (statement_next c.args.self.now.source.now laid h c.args.ordinal (c.args.ordinal - 1) more))

pub returns-in-None : goal.returns-in-None
returns-in-None c = λ laid own names h is.
    let more : c.args.ordinal ≡ c.args.ordinal - 1 + 1 = search rules in
    place_none own (slice_get laid (c.args.ordinal - 1)) (sym c.in-None.is ∙ c.place.ensures laid h)
    ∙ ap (place_number own) (sym (statement_next c.args.self.now.source.now laid h c.args.ordinal (c.args.ordinal - 1) more))
