-- Digits that are written from the last to the first.

use Rattle.std.proofs.Common.{◌≡◌, ℕ, suc, ◌+◌, ◌-◌, ◌/◌, ◌%◌, ◌<◌, ◌≤◌, false, List, [], ◌∷◌, ◌++◌, length, drop, set, sym, ap, ◌∙◌, append_assoc, append-nil, arith}
use Rattle.std.specs.Fmt.{digit_glyph}
use Rattle.std.proofs.lemmas.List.{drop-set, drop_all}
use Rattle.rv_event_text_laws.specs.EventLine.{hex_digits}
use Rattle.rv_event_text_laws.proofs.EventLineLemmas.{digits_step, digits_none}

-- the digits that are left before those that stand already
abbrev pub AreWritten : (count k rest number : ℕ) → List ℕ → Type 0
AreWritten count k rest number xs =
    hex_digits (count - k) rest ++ drop (16 - k) xs ≡ hex_digits count number

pub digits_begin : (count number : ℕ) (xs : List ℕ) → length xs ≡ 16 → AreWritten count 0 number number xs
digits_begin count number xs long =
    let all : drop (16 - 0) xs ≡ [] = drop_all (16 - 0) xs (omega (arith, long)) in
    let left : count - 0 ≡ count = omega arith in
    ap (λ (l : List ℕ). hex_digits (count - 0) number ++ l) all ∙ append-nil (hex_digits (count - 0) number) ∙ ap (λ (n : ℕ). hex_digits n number) left

pub digits_more : (count k rest number g : ℕ) (xs : List ℕ) → k < count → count ≤ 16 → length xs ≡ 16 → g ≡ digit_glyph false (rest % 16) → AreWritten count k rest number xs
    → AreWritten count (k + 1) (rest / 16) number (set xs (15 - k) g)
digits_more count k rest number g xs in_count few long is so_far =
    let i : ℕ = 15 - k in
    let j : ℕ = count - (k + 1) in
    let here : 16 - (k + 1) ≡ i = omega arith in
    let next : i + 1 ≡ 16 - k = omega arith in
    let left : count - k ≡ suc j = omega arith in
    let standing : drop (16 - (k + 1)) (set xs i g) ≡ digit_glyph false (rest % 16) ∷ drop (16 - k) xs =
    ap (λ (n : ℕ). drop n (set xs i g)) here ∙ drop-set xs i g (omega (arith, long))
    ∙ ap (λ (n : ℕ). g ∷ drop n xs) next ∙ ap (λ (d : ℕ). d ∷ drop (16 - k) xs) is in
    ap (λ (l : List ℕ). hex_digits j (rest / 16) ++ l) standing
    ∙ sym (append_assoc (hex_digits j (rest / 16)) (digit_glyph false (rest % 16) ∷ []) (drop (16 - k) xs))
    ∙ ap (λ (l : List ℕ). l ++ drop (16 - k) xs) (sym (digits_step j rest))
    ∙ ap (λ (n : ℕ). hex_digits n rest ++ drop (16 - k) xs) (sym left) ∙ so_far

pub digits_end : (count k rest number : ℕ) (xs : List ℕ) → k ≡ count → AreWritten count k rest number xs → drop (16 - count) xs ≡ hex_digits count number
digits_end count k rest number xs end so_far =
    let none : count - k ≡ 0 = omega arith in
    let left : 16 - count ≡ 16 - k = omega arith in
    ap (λ (n : ℕ). drop n xs) left
    ∙ sym (ap (λ (n : ℕ). hex_digits n rest ++ drop (16 - k) xs) none ∙ ap (λ (l : List ℕ). l ++ drop (16 - k) xs) (digits_none rest)) ∙ so_far
