-- Instructions without effect: how many bytes they have.

use Rattle.std.proofs.Common.{◌≡◌, ℕ, zero, suc, ◌+◌, ◌-◌, ◌*◌, ◌/◌, ◌%◌, ◌<◌, ◌≤◌, Bool, true, false, cond, nat_le, List, [], ◌∷◌, ◌++◌, length, refl, sym, ap, ◌∙◌, arith}
use Rattle.std.proofs.lemmas.Bool.{leb-true, leb-false, le-leb, lt-leb}
use Rattle.std.proofs.lemmas.List.{length-append, append_assoc, append-nil}
use Rattle.rv_object_laws.specs.Padding.{four_each, no_operations}

pub four_length : (n : ℕ) → length (four_each n) ≡ 4 * n
four_length zero = refl
four_length (suc n) = let rest = four_length n in omega arith

abbrev pub half : List ℕ
half = 0x01 ∷ 0 ∷ []

-- an odd byte is left out
length_any : (n : ℕ) → length (no_operations n) ≡ n - n % 2
length_any n =
    length-append (four_each (n / 4)) (cond (nat_le 2 (n % 4)) half [])
    ∙ by (nat_le 2 (n % 4)) (λ h. leb-true 2 (n % 4) h) (λ h. leb-false 2 (n % 4) h)
  where
    by : (b : Bool) → (b ≡ true → 2 ≤ n % 4) → (b ≡ false → n % 4 < 2) → length (four_each (n / 4)) + length (cond b half []) ≡ n - n % 2
    by true high low = let two = high refl in let fours = four_length (n / 4) in omega arith
    by false high low = let less = low refl in let fours = four_length (n / 4) in omega arith

pub length_even : (n : ℕ) → n % 2 ≡ 0 → length (no_operations n) ≡ n
length_even n even = length_any n ∙ omega arith

-- and makes no difference
pub same_even : (n : ℕ) → no_operations (n - n % 2) ≡ no_operations n
same_even n =
    let fours : (n - n % 2) / 4 ≡ n / 4 = omega arith in
    let twos : nat_le 2 ((n - n % 2) % 4) ≡ nat_le 2 (n % 4) = by (nat_le 2 ((n - n % 2) % 4)) (nat_le 2 (n % 4)) (λ h. leb-true 2 ((n - n % 2) % 4) h) (λ h. leb-false 2 ((n - n % 2) % 4) h) (λ h. leb-true 2 (n % 4) h) (λ h. leb-false 2 (n % 4) h) in
    ap (λ k. four_each k ++ cond (nat_le 2 ((n - n % 2) % 4)) half []) fours
    ∙ ap (λ b. four_each (n / 4) ++ cond b half []) twos
  where
    by : (a b : Bool) → (a ≡ true → 2 ≤ (n - n % 2) % 4) → (a ≡ false → (n - n % 2) % 4 < 2) → (b ≡ true → 2 ≤ n % 4) → (b ≡ false → n % 4 < 2) → a ≡ b
    by true true p q r s = refl
    by false false p q r s = refl
    by true false p q r s = let low = p refl in let high = s refl in absurd (omega arith)
    by false true p q r s = let low = q refl in let high = r refl in absurd (omega arith)

-- four bytes more
pub four_more : (out : List ℕ) (n k : ℕ) → k < n → (out ++ (0x13 ∷ 0 ∷ 0 ∷ 0 ∷ [])) ++ four_each (n - (k + 1)) ≡ out ++ four_each (n - k)
four_more out n k less =
    let one : suc (n - (k + 1)) ≡ n - k = omega arith in
    append_assoc out (0x13 ∷ 0 ∷ 0 ∷ 0 ∷ []) (four_each (n - (k + 1))) ∙ ap (λ m. out ++ four_each m) one

pub whole : (out old : List ℕ) (bytes k : ℕ) → bytes / 4 ≤ k → bytes % 4 < 2 → out ++ four_each (bytes / 4 - k) ≡ old ++ four_each (bytes / 4) → out ≡ old ++ no_operations bytes
whole out old bytes k all low so_far =
    let none : bytes / 4 - k ≡ 0 = omega arith in
    let test : nat_le 2 (bytes % 4) ≡ false = lt-leb 2 (bytes % 4) low in
    sym (append-nil out) ∙ ap (λ m. out ++ four_each m) (sym none) ∙ so_far
    ∙ ap (λ l. old ++ l) (sym (append-nil (four_each (bytes / 4))) ∙ ap (λ b. four_each (bytes / 4) ++ cond b half []) (sym test))

pub and_half : (out old : List ℕ) (bytes k : ℕ) → bytes / 4 ≤ k → 2 ≤ bytes % 4 → out ++ four_each (bytes / 4 - k) ≡ old ++ four_each (bytes / 4) → out ++ half ≡ old ++ no_operations bytes
and_half out old bytes k all high so_far =
    let none : bytes / 4 - k ≡ 0 = omega arith in
    let test : nat_le 2 (bytes % 4) ≡ true = le-leb 2 (bytes % 4) high in
    let fours : out ≡ old ++ four_each (bytes / 4) = sym (append-nil out) ∙ ap (λ m. out ++ four_each m) (sym none) ∙ so_far in
    ap (λ l. l ++ half) fours ∙ append_assoc old (four_each (bytes / 4)) half
    ∙ ap (λ b. old ++ (four_each (bytes / 4) ++ cond b half [])) (sym test)
