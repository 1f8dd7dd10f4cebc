use Rattle.std.proofs.Common.{◌≡◌, ◌+◌, ◌-◌, sym, ap, ◌∙◌, rules}
use Rattle.std.specs.Prelude.{slice_get}
use Rattle.rv_assemble_laws.specs.Symbols.{after_found, laid_at}
use Rattle.rv_symbols.proofs.StandsLemmas.{laid_none, statement_next, after_some, after_none}
use Rattle.rv_symbols.proofs.source.Source.after.Goals as goal

pub returns-then-ordinal-eq0 : goal.returns-then-ordinal-eq0
returns-then-ordinal-eq0 c = λ laid h.
    let zero : c.args.ordinal ≡ 0 = search rules in
    sym (ap (λ s. after_found s c.args.plus) (ap (λ n. laid_at laid n) zero ∙ laid_none c.args.self.now laid h))

pub returns-in-Some : goal.returns-in-Some
returns-in-Some c = λ laid h.
    let more : c.args.ordinal ≡ c.args.ordinal - 1 + 1 = search rules in
    after_some (slice_get laid (c.args.ordinal - 1)) c.in-Some.section c.in-Some.offset c.args.plus (sym c.in-Some.is ∙ c.place.ensures laid h)
    ∙ ap (λ s. after_found s c.args.plus) (sym (statement_next c.args.self.now laid h c.args.ordinal (c.args.ordinal - 1) more))

pub returns-in-None : goal.returns-in-None
returns-in-None c = λ laid h.
    let more : c.args.ordinal ≡ c.args.ordinal - 1 + 1 = search rules in
    after_none (slice_get laid (c.args.ordinal - 1)) c.args.plus (sym c.in-None.is ∙ c.place.ensures laid h)
    ∙ ap (λ s. after_found s c.args.plus) (sym (statement_next c.args.self.now laid h c.args.ordinal (c.args.ordinal - 1) more))
