use Rattle.std.proofs.Common.{◌≡◌, ◌∙◌, ℕ, suc, ◌<◌, ◌≤◌, ap, subst, sym, nat_lt, length, rules}
use Rattle.std.specs.Prelude.{reverse, slice_get}
use Rattle.std.specs.List.{find}
use Rattle.std.specs.List.Sorted.{IsNonDecreasingBy, IsPartitionPoint}
use Rattle.rv_unit.specs.declared.tables.NumericLabel.{NumericLabel}
use Rattle.rv_unit.specs.NumericLabels.{labels_from}
use Rattle.rv_unit.proofs.OrderedLemmas.{last_before, none_before}
use Rattle.rv_unit.proofs.RunsLemmas.{count_labels, ordinals_rise, labels_before}
use Rattle.rv_unit.proofs.numeric_labels.NumericLabels.last_before.Goals as goal

pub returns-in-Some : goal.returns-in-Some
returns-in-Some c = λ rise.
    let rs = reverse c.self.inside.runs.items in
    let os = c.self.inside.ordinals.items in
    let ls = labels_from rs 0 os in
    let n = c.count_before.result in
    let in_order = subst (λ l. IsNonDecreasingBy (λ (o : ℕ). o) l) (sym c.as_slice.ensures.value) (ordinals_rise rs os (subst (λ l. IsNonDecreasingBy (λ (m : NumericLabel). m.ordinal) l) (sym c.self.view_is) rise)) in
    let point = labels_before c.args.ordinal rs os n (subst (λ l. IsPartitionPoint (λ (o : ℕ). o < c.args.ordinal) (λ (o : ℕ). c.args.ordinal ≤ o) l n) c.as_slice.ensures.value (c.count_before.ensures.point in_order)) in
    let within : n ≤ length ls = subst (λ m. n ≤ m) (ap length c.as_slice.ensures.value ∙ sym (count_labels rs 0 os)) c.count_before.ensures.bound in
    let is : n ≡ suc c.in-Some.last = search rules in
    c.get.ensures ∙ ap (λ l. slice_get l c.in-Some.last) (sym c.self.view_is)
    ∙ last_before (λ (m : NumericLabel). m.ordinal) c.args.ordinal ls n c.in-Some.last within point.0 point.1 is
    ∙ ap (λ l. find (λ (m : NumericLabel). nat_lt m.ordinal c.args.ordinal) (reverse l)) c.self.view_is

pub returns-in-None : goal.returns-in-None
returns-in-None c = λ rise.
    let rs = reverse c.self.inside.runs.items in
    let os = c.self.inside.ordinals.items in
    let ls = labels_from rs 0 os in
    let n = c.count_before.result in
    let in_order = subst (λ l. IsNonDecreasingBy (λ (o : ℕ). o) l) (sym c.as_slice.ensures.value) (ordinals_rise rs os (subst (λ l. IsNonDecreasingBy (λ (m : NumericLabel). m.ordinal) l) (sym c.self.view_is) rise)) in
    let point = labels_before c.args.ordinal rs os n (subst (λ l. IsPartitionPoint (λ (o : ℕ). o < c.args.ordinal) (λ (o : ℕ). c.args.ordinal ≤ o) l n) c.as_slice.ensures.value (c.count_before.ensures.point in_order)) in
    let within : n ≤ length ls = subst (λ m. n ≤ m) (ap length c.as_slice.ensures.value ∙ sym (count_labels rs 0 os)) c.count_before.ensures.bound in
    let is : n ≡ 0 = search rules in
    none_before (λ (m : NumericLabel). m.ordinal) c.args.ordinal ls n within point.0 point.1 is
    ∙ ap (λ l. find (λ (m : NumericLabel). nat_lt m.ordinal c.args.ordinal) (reverse l)) c.self.view_is
