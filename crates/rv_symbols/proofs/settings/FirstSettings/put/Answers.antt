use Rattle.std.proofs.Common.{refl, ◌∙◌}
use Rattle.rv_unit.specs.Tables.{assignment_of}
use Rattle.rv_symbols.proofs.FirstsLemmas.{first_more}
use Rattle.rv_symbols.proofs.settings.FirstSettings.put.Goals as goal

pub returns : goal.returns
returns c = λ assignments h q.
    let s = c.args.setting.now in
    first_more s.name.now q.now s.ordinal assignments (assignment_of s) c.least-first.result _ _ _ refl refl ((c.copied-other.ensures ∙ c.get.ensures.value) ∙ h s.name) c.least-first.ensures (c.in_ok-insert.ensures.updates.0 q) (h q)
