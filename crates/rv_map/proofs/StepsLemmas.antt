-- One step of each loop that writes, and its end.

use Rattle.std.proofs.Common.{◌≡◌, ◌≤◌, ◌<◌, ◌+◌, ◌++◌, ◌∷◌, ℕ, List, length, map, flat_map, drop, get_or, refl, sym, ap, ◌∙◌, append_assoc}
use Rattle.rv_list_laws.proofs.TakeDropLemmas.{drop_read_or, joined_bytes_done}
use Rattle.rv_map_laws.specs.Text.{line_text}

-- the lines of some things
abbrev pub texts : {A : Type 0} → (A → List (List ℕ)) → List A → List ℕ
texts line xs = flat_map line_text (map line xs)

-- what is there so far and what the rest gives, one item later
pub step : {A : Type 0} (F : List A → List ℕ) (g : A → List ℕ) → ((y : A) (ys : List A) → F (y ∷ ys) ≡ g y ++ F ys)
    → (xs : List A) (i : ℕ) (x d : A) → i < length xs → x ≡ get_or xs i d
    → (old new whole : List ℕ) → new ≡ old ++ g x → old ++ F (drop i xs) ≡ whole → new ++ F (drop (i + 1) xs) ≡ whole
step F g law xs i x d inside is old new whole grown so_far =
    ap (λ l. l ++ F (drop (i + 1) xs)) grown ∙ append_assoc old (g x) (F (drop (i + 1) xs))
    ∙ ap (λ l. old ++ l) (sym (law x (drop (i + 1) xs))) ∙ ap (λ l. old ++ F l) (sym (drop_read_or xs i x d inside is)) ∙ so_far

-- both where each item has one line
pub line_step : {A : Type 0} (line : A → List (List ℕ)) (xs : List A) (i : ℕ) (d : A) → i < length xs
    → (old new whole : List ℕ) → new ≡ old ++ line_text (line (get_or xs i d)) → old ++ texts line (drop i xs) ≡ whole → new ++ texts line (drop (i + 1) xs) ≡ whole
line_step line xs i d inside = step (texts line) (λ x. line_text (line x)) (λ y ys. refl) xs i (get_or xs i d) d inside refl

pub lines_done : {A : Type 0} (line : A → List (List ℕ)) (xs : List A) (i : ℕ) → length xs ≤ i
    → (out whole : List ℕ) → out ++ texts line (drop i xs) ≡ whole → out ≡ whole
lines_done line xs i past = joined_bytes_done (texts line) refl xs i past
