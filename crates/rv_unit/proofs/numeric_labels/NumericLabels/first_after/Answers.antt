use Rattle.std.proofs.Common.{◌∙◌, ℕ, ◌<◌, ◌≤◌, ap, subst, sym, nat_lt}
use Rattle.std.specs.Prelude.{reverse, slice_get}
use Rattle.std.specs.List.{find}
use Rattle.std.specs.List.Sorted.{IsNonDecreasingBy, IsPartitionPoint}
use Rattle.rv_list_laws.proofs.FindLemmas.{find_at}
use Rattle.rv_unit.specs.declared.tables.NumericLabel.{NumericLabel}
use Rattle.rv_unit.specs.NumericLabels.{labels_from}
use Rattle.rv_unit.proofs.RunsLemmas.{ordinals_rise, labels_until}
use Rattle.rv_unit.proofs.numeric_labels.NumericLabels.first_after.Goals as goal

pub returns : goal.returns
returns c = λ rise.
    let rs = reverse c.self.inside.runs.items in
    let os = c.self.inside.ordinals.items in
    let ls = labels_from rs 0 os in
    let n = c.count_until.result in
    let in_order = subst (λ l. IsNonDecreasingBy (λ (o : ℕ). o) l) (sym c.as_slice.ensures.value) (ordinals_rise rs os (subst (λ l. IsNonDecreasingBy (λ (m : NumericLabel). m.ordinal) l) (sym c.self.view_is) rise)) in
    let point = labels_until c.args.ordinal rs os n (subst (λ l. IsPartitionPoint (λ (o : ℕ). o ≤ c.args.ordinal) (λ (o : ℕ). c.args.ordinal < o) l n) c.as_slice.ensures.value (c.count_until.ensures in_order)) in
    c.get.ensures ∙ ap (λ l. slice_get l n) (sym c.self.view_is)
    ∙ find_at (λ (m : NumericLabel). m.ordinal) c.args.ordinal ls n point.0 point.1
    ∙ ap (find (λ (m : NumericLabel). nat_lt c.args.ordinal m.ordinal)) c.self.view_is
