-- The last digit of a number in hexadecimal.

use Rattle.std.proofs.Common.{◌≡◌, ℕ, Bool, true, zero, suc, ◌-◌, ◌/◌, ◌%◌, ◌^◌, ◌≤◌, ◌<◌, false, cond, List, [], ◌∷◌, ◌++◌, refl, eqb, sym, ap, ◌∙◌, append_assoc, arith, inl, inr}
use Rattle.std.proofs.lemmas.Bool.{cases_lt}
use Rattle.std.proofs.lemmas.Bool.Decides.{nat_tests}
use Rattle.std.proofs.lemmas.Str.Ascii.{IsAscii-nil, IsAscii-cons}
use Rattle.std.specs.Fmt.{digits, digits_onto, digit_glyph}
use Rattle.std.specs.Str.{IsAscii}
use Rattle.std.proofs.lemmas.Fmt.{hex_one_digit}
use Rattle.rv_map_laws.specs.Text.{hexadecimal}

abbrev spell : ℕ → ℕ → List ℕ → List ℕ
spell k n acc = digits_onto k 16 false n acc

abbrev last : ℕ → ℕ
last n = digit_glyph false (n % 16)

spell_last : (k n : ℕ) (acc : List ℕ) → n < 16 → spell (suc k) n acc ≡ last n ∷ acc
spell_last k n acc h = let zero_left : n / 16 ≡ 0 = omega arith in rw zero_left refl

spell_next : (k n : ℕ) (acc : List ℕ) → 16 ≤ n → spell (suc k) n acc ≡ spell k (n / 16) (last n ∷ acc)
spell_next k n acc h = let more : eqb (n / 16) 0 ≡ false = grind (arith, nat_tests) in ap (λ t. cond t (last n ∷ acc) (spell k (n / 16) (last n ∷ acc))) more

spell-append : (k n : ℕ) (acc : List ℕ) → spell k n acc ≡ spell k n [] ++ acc
spell-append zero n acc = refl
spell-append (suc k) n acc = elim (cases_lt n 16) [
  | inl l ↦ spell_last k n acc l ∙ ap (λ x. x ++ acc) (sym (spell_last k n [] l))
  | inr l ↦ spell_next k n acc l ∙ spell-append k (n / 16) (last n ∷ acc) ∙ sym (append_assoc (spell k (n / 16) []) (last n ∷ []) acc)
      ∙ ap (λ x. x ++ acc) (sym (spell_next k n [] l ∙ spell-append k (n / 16) (last n ∷ [])))
]

-- the limit of digits does not matter once it is large enough
spell_enough : (j k n : ℕ) (acc : List ℕ) → n < 16 ^ suc j → n < 16 ^ suc k → spell (suc j) n acc ≡ spell (suc k) n acc
spell_enough zero k n acc p q = spell_last zero n acc (omega arith) ∙ sym (spell_last k n acc (omega arith))
spell_enough (suc j) zero n acc p q = spell_last (suc j) n acc (omega arith) ∙ sym (spell_last zero n acc (omega arith))
spell_enough (suc j) (suc k) n acc p q = elim (cases_lt n 16) [
  | inl l ↦ spell_last (suc j) n acc l ∙ sym (spell_last (suc k) n acc l)
  | inr l ↦ spell_next (suc j) n acc l ∙ spell_enough j k (n / 16) (last n ∷ acc) (omega arith) (omega arith) ∙ sym (spell_next (suc k) n acc l)
]

pub hexadecimal_step : (n : ℕ) → 16 ≤ n → n < 2 ^ 64 → hexadecimal n ≡ hexadecimal (n / 16) ++ (digit_glyph false (n % 16) ∷ [])
unfolding digits
hexadecimal_step n h small =
    spell_next 63 n [] h ∙ spell_enough 62 63 (n / 16) (last n ∷ []) (omega arith) (omega arith) ∙ spell-append 64 (n / 16) (last n ∷ [])

pub hexadecimal_digit : (n : ℕ) → n < 16 → hexadecimal n ≡ digit_glyph false n ∷ []
hexadecimal_digit n h = hex_one_digit false n h

-- a number with a digit to come leaves room for it
pub room_left : (n start : ℕ) → 16 ≤ n → n < 16 ^ suc start → (1 ≤ start) × (n / 16 < 16 ^ suc (start - 1))
room_left n zero h small = absurd (omega (arith, h, small))
room_left n (suc start) h small =
    let less : suc start - 1 ≡ start = omega arith in
    (omega arith, rw less (omega (arith, small)))

-- ---- digits are ASCII

below : (d : ℕ) → d < 16 → digit_glyph false d < 128
below d h = grind (arith, nat_tests)

either : (t : Bool) (xs ys : List ℕ) → IsAscii xs → IsAscii ys → IsAscii (cond t xs ys)
either true xs ys h k = h
either false xs ys h k = k

ascii_onto : (k n : ℕ) (acc : List ℕ) → IsAscii acc → IsAscii (spell k n acc)
ascii_onto zero n acc h = h
ascii_onto (suc k) n acc h =
    let more = IsAscii-cons (last n) acc (below (n % 16) (omega arith)) h in
    either (eqb (n / 16) 0) (last n ∷ acc) (spell k (n / 16) (last n ∷ acc)) more (ascii_onto k (n / 16) (last n ∷ acc) more)

pub ascii_hexadecimal : (n : ℕ) → IsAscii (hexadecimal n)
unfolding digits
ascii_hexadecimal n = ascii_onto 64 n [] IsAscii-nil
