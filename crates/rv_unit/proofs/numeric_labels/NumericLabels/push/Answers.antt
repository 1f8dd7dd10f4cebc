use Rattle.std.proofs.Common.{true, ◌≡◌, ◌∙◌, ◌<◌, ◌^◌, ◌++◌, [], ◌∷◌, length, ap, sym, subst, rules}
use Rattle.std.specs.Prelude.{reverse}
use Rattle.rv_unit.specs.NumericLabels.{are_runs, place_by_runs, labels_from}
use Rattle.rv_unit.proofs.RunsLemmas.{count_labels, labels_added}
use Rattle.rv_unit.proofs.numeric_labels.NumericLabels.push.Goals as goal

pub returns-clause-ok : goal.returns-clause-ok
returns-clause-ok c = λ few.
    let os = c.self.inside.ordinals.items in
    let old = reverse c.self.inside.runs.items in
    let new = reverse c.add_place.new.runs.items in
    let count : length c.args.self.now ≡ length os = sym (ap length c.self.view_is) ∙ count_labels old 0 os in
    let index : c.len-index.result ≡ length os = search rules in
    let pushed : c.push.new.self.items ≡ os ++ c.args.label.ordinal ∷ [] = search rules in
    ap (labels_from new 0) pushed
    ∙ labels_added new old os c.args.label
    (λ i inside. c.in_ok-add_place.ensures.others i (subst (λ n. i < n) (sym index) inside))
    (subst (λ n. place_by_runs new n ≡ c.args.label.place) index
    (c.in_ok-add_place.ensures.place (subst (λ n. are_runs old n ≡ true) (sym index) c.self.invariant) (subst (λ n. n < 2 ^ 32) (count ∙ sym index) few)))
    ∙ ap (λ l. l ++ c.args.label ∷ []) c.self.view_is
