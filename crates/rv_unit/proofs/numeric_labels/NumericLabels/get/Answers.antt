use Rattle.std.proofs.Common.{◌≡◌, ◌∙◌, ◌<◌, true, length, ap, sym, subst, rules, nat_le, Some, None}
use Rattle.std.specs.Prelude.{reverse, slice_get}
use Rattle.std.specs.Option.{option_map_or}
use Rattle.std.specs.List.{find}
use Rattle.std.proofs.lemmas.Option.{slice_get_within}
use Rattle.rv_unit.specs.Sections.{zeros_offset}
use Rattle.rv_unit.specs.declared.numeric_labels.Run.{Run}
use Rattle.rv_unit.specs.NumericLabels.{are_runs}
use Rattle.rv_unit.proofs.OrderedLemmas.{got}
use Rattle.rv_unit.proofs.RunsLemmas.{label_missing, label_found, in_a_run}
use Rattle.rv_unit.proofs.numeric_labels.NumericLabels.get.Goals as goal

pub returns-in_err-ordinal : goal.returns-in_err-ordinal
returns-in_err-ordinal c =
    let os = c.self.inside.ordinals.items in
    let i = c.args.index in
    let at : c.copied.result ≡ slice_get os i = c.copied.ensures ∙ got c.get.result c.as_slice.result.now i c.get.ensures.lookup.0 c.get.ensures.lookup.1 ∙ ap (λ l. slice_get l i) c.as_slice.ensures.value in
    let none : c.copied.result ≡ None = search rules in
    let answer : c.from_residual.result ≡ None = search rules in
    answer ∙ label_missing (reverse c.self.inside.runs.items) os c.args.self.now i c.self.view_is (sym at ∙ none)

pub returns-in_err-run : goal.returns-in_err-run
returns-in_err-run c =
    let os = c.self.inside.ordinals.items in
    let rs = c.self.inside.runs.items in
    let i = c.args.index in
    let at : c.copied.result ≡ slice_get os i = c.copied.ensures ∙ got c.get.result c.as_slice.result.now i c.get.ensures.lookup.0 c.get.ensures.lookup.1 ∙ ap (λ l. slice_get l i) c.as_slice.ensures.value in
    let some : c.copied.result ≡ Some c.in_ok-ordinal.ordinal = search rules in
    let inside : i < length os = slice_get_within os i c.in_ok-ordinal.ordinal (sym at ∙ some) in
    let runs = c.run_of.ensures (length os) (subst (λ l. are_runs (reverse l) (length os) ≡ true) (sym c.as_slice-2.ensures.value) c.self.invariant) in
    let none : c.run_of.result ≡ None = search rules in
    absurd (in_a_run (reverse rs) (length os) i c.self.invariant inside (ap (λ l. find (λ (r : Run). nat_le r.first i) (reverse l)) (sym c.as_slice-2.ensures.value) ∙ sym runs ∙ none))

pub returns : goal.returns
returns c =
    let os = c.self.inside.ordinals.items in
    let rs = c.self.inside.runs.items in
    let i = c.args.index in
    let at : c.copied.result ≡ slice_get os i = c.copied.ensures ∙ got c.get.result c.as_slice.result.now i c.get.ensures.lookup.0 c.get.ensures.lookup.1 ∙ ap (λ l. slice_get l i) c.as_slice.ensures.value in
    let some : c.copied.result ≡ Some c.in_ok-ordinal.ordinal = search rules in
    let runs = c.run_of.ensures (length os) (subst (λ l. are_runs (reverse l) (length os) ≡ true) (sym c.as_slice-2.ensures.value) c.self.invariant) in
    let found : c.run_of.result ≡ Some c.in_ok-run.run' = search rules in
    label_found (reverse rs) os c.args.self.now i c.in_ok-ordinal.ordinal c.in_ok-run.run'.place c.self.view_is (sym at ∙ some)
    (ap (λ o. option_map_or (λ (r : Run). r.place) o zeros_offset)
    (ap (λ l. find (λ (r : Run). nat_le r.first i) (reverse l)) (sym c.as_slice-2.ensures.value) ∙ sym runs ∙ found))
