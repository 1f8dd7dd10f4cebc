use Rattle.std.proofs.Common.{◌≡◌, Some, None, sym, ap, ◌∙◌}
use Rattle.rv_symbols.specs.Settings.{first_ordinal}
use Rattle.rv_symbols.proofs.FirstsLemmas.{is_at, first_is}
use Rattle.rv_symbols.proofs.settings.FirstSettings.is_first.Goals as goal

pub returns-in-Some : goal.returns-in-Some
returns-in-Some c = λ assignments h.
    let k = c.args.ordinal in
    let found : Some c.in-Some.first ≡ first_ordinal assignments c.args.name.now = sym c.in-Some.is ∙ (c.copied.ensures ∙ c.get.ensures.value) ∙ h c.args.name in
    ap (λ o. is_at k o) found ∙ sym (first_is k c.args.name.now assignments)

pub returns-in-None : goal.returns-in-None
returns-in-None c = λ assignments h.
    let k = c.args.ordinal in
    let found : None ≡ first_ordinal assignments c.args.name.now = sym c.in-None.is ∙ (c.copied.ensures ∙ c.get.ensures.value) ∙ h c.args.name in
    ap (λ o. is_at k o) found ∙ sym (first_is k c.args.name.now assignments)
