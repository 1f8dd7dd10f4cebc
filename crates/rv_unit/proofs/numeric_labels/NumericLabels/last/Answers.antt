use Rattle.std.proofs.Common.{◌≡◌, ◌∙◌, ◌-◌, length, ap, sym, rules, arith, Some, option_map}
use Rattle.std.specs.Prelude.{reverse, slice_get}
use Rattle.rv_list_laws.proofs.ElementsLemmas.{get_reversed_first}
use Rattle.rv_unit.specs.declared.numeric_labels.Run.{Run}
use Rattle.rv_unit.proofs.RunsLemmas.{count_labels, label_found, place_last}
use Rattle.rv_unit.proofs.numeric_labels.NumericLabels.last.Goals as goal

pub returns : goal.returns
returns c =
    let os = c.self.inside.ordinals.items in
    let rs = c.self.inside.runs.items in
    let i = length os - 1 in
    let count : length os ≡ length c.args.self.now = sym (count_labels (reverse rs) 0 os) ∙ ap length c.self.view_is in
    let ordinal : c.copied.result ≡ Some c.in_ok-ordinal.ordinal = search rules in
    let run : c.copied-2.result ≡ Some c.in_ok-run.run' = search rules in
    let at : slice_get os i ≡ Some c.in_ok-ordinal.ordinal = sym (c.copied.ensures ∙ c.last.ensures.value ∙ ap (λ l. slice_get l (length l - 1)) c.as_slice.ensures.value) ∙ ordinal in
    let of : slice_get (reverse rs) 0 ≡ Some c.in_ok-run.run' = get_reversed_first rs ∙ sym (c.copied-2.ensures ∙ c.last-2.ensures.value ∙ ap (λ l. slice_get l (length l - 1)) c.as_slice-2.ensures.value) ∙ run in
    label_found (reverse rs) os c.args.self.now i c.in_ok-ordinal.ordinal c.in_ok-run.run'.place c.self.view_is at
    (place_last (reverse rs) c.in_ok-run.run'.place (length os) i (ap (option_map (λ (r : Run). r.place)) of) c.self.invariant (omega arith))
    ∙ ap (λ n. slice_get c.args.self.now (n - 1)) count
