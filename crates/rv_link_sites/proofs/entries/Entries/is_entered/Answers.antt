use Rattle.std.proofs.Common.{sym, ap, subst, ◌∙◌}
use Rattle.std.specs.List.{list_any}
use Rattle.std.specs.List.Sorted.{IsNonDecreasing}
use Rattle.rv_link_sites.specs.Entries.{list_at, is_within_call}
use Rattle.rv_link_sites.proofs.InsideLemmas.{entries_tell}
use Rattle.rv_link_sites.proofs.entries.Entries.is_entered.Goals as goal

pub returns : goal.returns
returns c = λ o h inside.
    let same = ap (λ l. list_at l c.args.section.0) c.deref.ensures.value in
    c.is_entered_in.ensures (subst IsNonDecreasing (sym same) (h.rise c.args.section.0 inside)) ∙ ap (list_any (is_within_call c.args.place)) same
    ∙ entries_tell o c.args.self.now c.args.section.0 c.args.place h inside
