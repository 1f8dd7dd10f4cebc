use Rattle.std.proofs.Common.{◌≡◌, ℕ, ◌<◌, ◌≤◌, ◌+◌, ◌++◌, ◌∷◌, length, drop, get_or, rules, refl, sym, ap, ◌∙◌}
use Rattle.std.proofs.lemmas.List.{drop_more, get_or_default, at_drop_all}
use Rattle.std.specs.List.{list_any}
use Rattle.rv_object_reader.specs.Stretches.{starts_in}
use Rattle.rv_object_reader.proofs.EntriesLemmas.{any_moved, first_short}
use Rattle.rv_object_reader.proofs.recent.put_all.Goals as goal

pub loop-index-init : goal.loop-index-init
loop-index-init c = record { short = c.requires; same = λ a b. refl }

pub put_one-requires : goal.put_one-requires
put_one-requires c =
    let xs = c.args.spans.now in
    let i = c.loop-index.index in
    let x : ℕ × ℕ = get_or xs i (0, 0) in
    let less : i < length xs = search rules in
    (first_short x (drop (i + 1) xs) (drop i xs) (drop_more xs i x less ∙ ap (λ y. y ∷ drop (i + 1) xs) (sym (get_or_default xs i (0, 0) x less))) c.loop-index.invariant.short).0

pub loop-index-preserved : goal.loop-index-preserved
loop-index-preserved c =
    let xs = c.args.spans.now in
    let i = c.loop-index.index in
    let x : ℕ × ℕ = get_or xs i (0, 0) in
    let es = c.loop-index.fields.by_start.entries in
    let less : i < length xs = search rules in
    let front : drop i xs ≡ x ∷ drop (i + 1) xs = drop_more xs i x less ∙ ap (λ y. y ∷ drop (i + 1) xs) (sym (get_or_default xs i (0, 0) x less)) in
    record {
      short = (first_short x (drop (i + 1) xs) (drop i xs) front c.loop-index.invariant.short).1;
      same = λ a b. any_moved (starts_in a b) (drop (i + 1) xs) es c.put_one.new.fields.by_start.entries x (c.in_ok-put_one.ensures a b)
          ∙ sym (ap (λ l. list_any (starts_in a b) (l ++ es)) front) ∙ c.loop-index.invariant.same a b;
    }

pub returns : goal.returns
returns c = λ a b.
    let xs = c.args.spans.now in
    let n = c.loop-index.index in
    let past : length xs ≤ n = search rules in
    sym (at_drop_all (λ l. list_any (starts_in a b) (l ++ c.loop-index.fields.by_start.entries)) xs n past) ∙ c.loop-index.invariant.same a b
