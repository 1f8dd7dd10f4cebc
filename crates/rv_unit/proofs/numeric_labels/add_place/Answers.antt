use Rattle.std.proofs.Common.{◌≡◌, ◌∙◌, ◌-◌, ◌<◌, length, ap, sym, rules, arith, Some, option_map}
use Rattle.std.specs.Prelude.{reverse, slice_get}
use Rattle.rv_list_laws.proofs.ElementsLemmas.{get_reversed_first}
use Rattle.rv_unit.specs.declared.numeric_labels.Run.{Run}
use Rattle.rv_unit.proofs.RunsLemmas.{some_labels, runs_longer, place_last}
use Rattle.rv_unit.proofs.numeric_labels.add_place.Goals as goal

pub returns-then-ends_at-clause-runs : goal.returns-then-ends_at-clause-runs
returns-then-ends_at-clause-runs c = λ runs.
    let rs = c.args.runs.now.items in
    let last : option_map (λ (r : Run). r.place) (slice_get (reverse rs) 0) ≡ Some c.args.place =
    ap (option_map (λ (r : Run). r.place)) (get_reversed_first rs ∙ ap (λ l. slice_get l (length l - 1)) (sym c.as_slice.ensures.value)) ∙ c.ends_at.ensures c.if-ends_at.true in
    runs_longer (reverse rs) c.args.index (some_labels (reverse rs) c.args.place c.args.index last runs) runs

pub returns-then-ends_at-clause-place : goal.returns-then-ends_at-clause-place
returns-then-ends_at-clause-place c = λ runs few.
    let rs = c.args.runs.now.items in
    let last : option_map (λ (r : Run). r.place) (slice_get (reverse rs) 0) ≡ Some c.args.place =
    ap (option_map (λ (r : Run). r.place)) (get_reversed_first rs ∙ ap (λ l. slice_get l (length l - 1)) (sym c.as_slice.ensures.value)) ∙ c.ends_at.ensures c.if-ends_at.true in
    place_last (reverse rs) c.args.place c.args.index c.args.index last runs (omega arith)

pub returns-in-Err-clause-runs : goal.returns-in-Err-clause-runs
returns-in-Err-clause-runs c = λ runs.
    let many : 0 < c.args.index = search rules in
    runs_longer (reverse c.args.runs.now.items) c.args.index many runs
