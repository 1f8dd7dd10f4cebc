-- The bytes of escapes: up to three octal digits, or one or two hexadecimal ones.

use Rattle.std.proofs.Common.{◌≡◌, ℕ, suc, ◌+◌, ◌%◌, ◌^◌, ◌<◌, ◌≤◌, Bool, true, false, cond, ◌==◌, nat_lt, List, [], ◌∷◌, length, get_or, take, drop, add-one, refl, sym, ◌∙◌, ap, subst, arith, Option, Some, None, option_map}
use Rattle.std.proofs.lemmas.Bool.{and_parts, and_from, ltb-true, lt-ltb}
use Rattle.std.proofs.lemmas.List.{length-take-le}
use Rattle.std.specs.List.{list_all, prefix_len}
use Rattle.rv_expression_laws.specs.Bytes.{is_digit, digit, digits_value}
use Rattle.rv_expression_laws.specs.Strings.{Atom, Octal, Hexadecimal, byte_of}
use Rattle.rv_expression_laws.specs.Front.{number_by, escape_at}
use Rattle.rv_expression_laws.proofs.RunsLemmas.{short_within, short_all}

small_8 : (ds : List ℕ) → list_all (is_digit 8) ds ≡ true → length ds ≤ 3 → digits_value 8 ds < 512
small_8 [] all most = omega arith
small_8 (a ∷ []) all most =
    let la : digit a < 8 = ltb-true (digit a) 8 (and_parts (is_digit 8 a) true all).0 in omega arith
small_8 (a ∷ b ∷ []) all most =
    let h = and_parts (is_digit 8 a) (list_all (is_digit 8) (b ∷ [])) all in
    let la : digit a < 8 = ltb-true (digit a) 8 h.0 in
    let lb : digit b < 8 = ltb-true (digit b) 8 (and_parts (is_digit 8 b) true h.1).0 in
    omega arith
small_8 (a ∷ b ∷ c ∷ []) all most =
    let h = and_parts (is_digit 8 a) (list_all (is_digit 8) (b ∷ c ∷ [])) all in
    let g = and_parts (is_digit 8 b) (list_all (is_digit 8) (c ∷ [])) h.1 in
    let la : digit a < 8 = ltb-true (digit a) 8 h.0 in
    let lb : digit b < 8 = ltb-true (digit b) 8 g.0 in
    let lc : digit c < 8 = ltb-true (digit c) 8 (and_parts (is_digit 8 c) true g.1).0 in
    omega arith
small_8 (a ∷ b ∷ c ∷ d ∷ ds) all most = absurd (omega arith)

small_16 : (ds : List ℕ) → list_all (is_digit 16) ds ≡ true → length ds ≤ 2 → digits_value 16 ds < 256
small_16 [] all most = omega arith
small_16 (a ∷ []) all most =
    let la : digit a < 16 = ltb-true (digit a) 16 (and_parts (is_digit 16 a) true all).0 in omega arith
small_16 (a ∷ b ∷ []) all most =
    let h = and_parts (is_digit 16 a) (list_all (is_digit 16) (b ∷ [])) all in
    let la : digit a < 16 = ltb-true (digit a) 16 h.0 in
    let lb : digit b < 16 = ltb-true (digit b) 16 (and_parts (is_digit 16 b) true h.1).0 in
    omega arith
small_16 (a ∷ b ∷ c ∷ ds) all most = absurd (omega arith)

short_number : (base : ℕ) (ds : List ℕ) → list_all (is_digit base) ds ≡ true → digits_value base ds < 512 → number_by base ds ≡ Some (digits_value base ds)
short_number base ds all low =
    let under : nat_lt (digits_value base ds) (2 ^ 64) ≡ true = lt-ltb (digits_value base ds) (2 ^ 64) (omega arith) in
    ap (λ t. cond t (Some (digits_value base ds)) None) (and_from (list_all (is_digit base) ds) (nat_lt (digits_value base ds) (2 ^ 64)) all under)

octal_is : (e : ℕ) (es : List ℕ) → is_digit 8 e ≡ true
    → escape_at (e ∷ es) ≡ Some (Octal (e ∷ take (prefix_len (is_digit 8) (take 2 es)) es), suc (suc (prefix_len (is_digit 8) (take 2 es))))
unfolding escape_at
octal_is e es h = rw h refl

-- an octal escape, by its digits
pub escape_octal : (bytes rest : List ℕ) (n : ℕ) → 0 < length bytes → is_digit 8 (get_or bytes 0 0) ≡ true → rest ≡ drop 1 bytes → n ≡ prefix_len (is_digit 8) (take 2 rest)
    → option_map {U = ℕ × ℕ} (λ k. (k % 256, length (take (n + 1) bytes) + 1)) (number_by 8 (take (n + 1) bytes)) ≡ option_map {U = ℕ × ℕ} (λ f. (byte_of f.0, f.1)) (escape_at bytes)
escape_octal [] rest n some h back is = absurd (omega arith)
escape_octal (e ∷ es) rest n some h back is =
    let count : n ≡ prefix_len (is_digit 8) (take 2 es) = is ∙ ap (λ r. prefix_len (is_digit 8) (take 2 r)) back in
    subst (λ m. option_map {U = ℕ × ℕ} (λ k. (k % 256, length (take (m + 1) (e ∷ es)) + 1)) (number_by 8 (take (m + 1) (e ∷ es))) ≡ option_map {U = ℕ × ℕ} (λ f. (byte_of f.0, f.1)) (escape_at (e ∷ es)))
    (sym count) (by_count (prefix_len (is_digit 8) (take 2 es)) refl)
  where
    by_count : (m : ℕ) → m ≡ prefix_len (is_digit 8) (take 2 es)
        → option_map {U = ℕ × ℕ} (λ k. (k % 256, length (take (m + 1) (e ∷ es)) + 1)) (number_by 8 (take (m + 1) (e ∷ es))) ≡ option_map {U = ℕ × ℕ} (λ f. (byte_of f.0, f.1)) (escape_at (e ∷ es))
    by_count m same =
        let w = short_within (is_digit 8) 2 es in
        let within : m ≤ length es = omega (arith, w.0) in
        let most : m ≤ 2 = omega (arith, w.1) in
        let len : length (take m es) ≡ m = length-take-le m es within in
        let more : list_all (is_digit 8) (take m es) ≡ true = subst (λ k. list_all (is_digit 8) (take k es) ≡ true) (sym same) (short_all (is_digit 8) 2 es) in
        let all : list_all (is_digit 8) (e ∷ take m es) ≡ true = and_from (is_digit 8 e) (list_all (is_digit 8) (take m es)) h more in
        let low : digits_value 8 (e ∷ take m es) < 512 = small_8 (e ∷ take m es) all (omega arith) in
        let number : number_by 8 (e ∷ take m es) ≡ Some (digits_value 8 (e ∷ take m es)) = short_number 8 (e ∷ take m es) all low in
        let escape : escape_at (e ∷ es) ≡ Some (Octal (e ∷ take m es), suc (suc m)) = subst (λ k. escape_at (e ∷ es) ≡ Some (Octal (e ∷ take k es), suc (suc k))) (sym same) (octal_is e es h) in
        let counted : length (e ∷ take m es) + 1 ≡ suc (suc m) = omega arith in
        ap (λ k. option_map {U = ℕ × ℕ} (λ q. (q % 256, length (take k (e ∷ es)) + 1)) (number_by 8 (take k (e ∷ es)))) (add-one m)
        ∙ ap (option_map {U = ℕ × ℕ} (λ q. (q % 256, length (e ∷ take m es) + 1))) number
        ∙ ap (λ k. Some (digits_value 8 (e ∷ take m es) % 256, k)) counted
        ∙ sym (ap (option_map {U = ℕ × ℕ} (λ f. (byte_of f.0, f.1))) escape)

at_120 : (es : List ℕ) → escape_at (120 ∷ es) ≡ cond {A = Option (Atom × ℕ)} (prefix_len (is_digit 16) (take 2 es) == 0) None (Some (Hexadecimal (take (prefix_len (is_digit 16) (take 2 es)) es), suc (suc (prefix_len (is_digit 16) (take 2 es)))))
unfolding escape_at digit
at_120 es = refl

hexadecimal_is : (e : ℕ) (es : List ℕ) → e ≡ 120
    → escape_at (e ∷ es) ≡ cond {A = Option (Atom × ℕ)} (prefix_len (is_digit 16) (take 2 es) == 0) None (Some (Hexadecimal (take (prefix_len (is_digit 16) (take 2 es)) es), suc (suc (prefix_len (is_digit 16) (take 2 es)))))
hexadecimal_is e es h = ap (λ x. escape_at (x ∷ es)) h ∙ at_120 es

both : (t : Bool) (v k : ℕ) (ds : List ℕ) → v ≡ digits_value 16 ds
    → cond {A = Option (ℕ × ℕ)} t None (Some (v, suc (suc k))) ≡ option_map {U = ℕ × ℕ} (λ f. (byte_of f.0, f.1)) (cond {A = Option (Atom × ℕ)} t None (Some (Hexadecimal ds, suc (suc k))))
both true v k ds e = refl
both false v k ds e = ap (λ w. Some (w, suc (suc k))) e

-- a hexadecimal escape, by its digits
pub escape_hexadecimal : (bytes rest : List ℕ) (n : ℕ) → 0 < length bytes → get_or bytes 0 0 ≡ 120 → rest ≡ drop 1 bytes → n ≡ prefix_len (is_digit 16) (take 2 rest)
    → cond {A = Option (ℕ × ℕ)} (length (take n rest) == 0) None (option_map {U = ℕ × ℕ} (λ k. (k % 256, length (take n rest) + 2)) (number_by 16 (take n rest))) ≡ option_map {U = ℕ × ℕ} (λ f. (byte_of f.0, f.1)) (escape_at bytes)
escape_hexadecimal [] rest n some h back is = absurd (omega arith)
escape_hexadecimal (e ∷ es) rest n some h back is =
    let count : n ≡ prefix_len (is_digit 16) (take 2 es) = is ∙ ap (λ r. prefix_len (is_digit 16) (take 2 r)) back in
    subst (λ r. cond {A = Option (ℕ × ℕ)} (length (take n r) == 0) None (option_map {U = ℕ × ℕ} (λ k. (k % 256, length (take n r) + 2)) (number_by 16 (take n r))) ≡ option_map {U = ℕ × ℕ} (λ f. (byte_of f.0, f.1)) (escape_at (e ∷ es)))
    (sym back) (by_count n count)
  where
    by_count : (m : ℕ) → m ≡ prefix_len (is_digit 16) (take 2 es)
        → cond {A = Option (ℕ × ℕ)} (length (take m es) == 0) None (option_map {U = ℕ × ℕ} (λ k. (k % 256, length (take m es) + 2)) (number_by 16 (take m es))) ≡ option_map {U = ℕ × ℕ} (λ f. (byte_of f.0, f.1)) (escape_at (e ∷ es))
    by_count m same =
        let w = short_within (is_digit 16) 2 es in
        let within : m ≤ length es = omega (arith, w.0) in
        let most : m ≤ 2 = omega (arith, w.1) in
        let len : length (take m es) ≡ m = length-take-le m es within in
        let all : list_all (is_digit 16) (take m es) ≡ true = subst (λ k. list_all (is_digit 16) (take k es) ≡ true) (sym same) (short_all (is_digit 16) 2 es) in
        let low : digits_value 16 (take m es) < 256 = small_16 (take m es) all (omega arith) in
        let number : number_by 16 (take m es) ≡ Some (digits_value 16 (take m es)) = short_number 16 (take m es) all (omega arith) in
        let escape : escape_at (e ∷ es) ≡ cond {A = Option (Atom × ℕ)} (m == 0) None (Some (Hexadecimal (take m es), suc (suc m))) = subst (λ k. escape_at (e ∷ es) ≡ cond {A = Option (Atom × ℕ)} (k == 0) None (Some (Hexadecimal (take k es), suc (suc k)))) (sym same) (hexadecimal_is e es h) in
        let modulo : digits_value 16 (take m es) % 256 ≡ digits_value 16 (take m es) = omega arith in
        let counted : m + 2 ≡ suc (suc m) = omega arith in
        ap (λ k. cond {A = Option (ℕ × ℕ)} (k == 0) None (option_map {U = ℕ × ℕ} (λ q. (q % 256, k + 2)) (number_by 16 (take m es)))) len
        ∙ ap (λ o. cond {A = Option (ℕ × ℕ)} (m == 0) None (option_map {U = ℕ × ℕ} (λ q. (q % 256, m + 2)) o)) number
        ∙ ap (λ v. cond {A = Option (ℕ × ℕ)} (m == 0) None (Some (v, m + 2))) modulo
        ∙ ap (λ k. cond {A = Option (ℕ × ℕ)} (m == 0) None (Some (digits_value 16 (take m es), k))) counted
        ∙ both (m == 0) (digits_value 16 (take m es)) m (take m es) refl
        ∙ sym (ap (option_map {U = ℕ × ℕ} (λ f. (byte_of f.0, f.1))) escape)
