-- Truth values: rows of `&&` and `||`, and what a number of one bit is.

use Rattle.std.proofs.Common.{◌≡◌, Bool, true, false, refl, ◌<◌, lit<, ◌^◌, arith, if◌then◌else◌, ◌/◌, ◌%◌, ◌==◌, not, ◌⊎◌, inl, inr, sym}
use Rattle.std.specs.Prelude.{◌&&◌, ◌||◌}
use Rattle.std.proofs.lemmas.Bool.{and_parts}
use Rattle.std.specs.Int.{from_bool}

pub and_false : (b : Bool) → (b && false) ≡ false
and_false true = refl
and_false false = refl

pub and_first : (a b : Bool) → (a && b) ≡ true → a ≡ true
and_first a b e = (and_parts a b e).0

pub and_four_first : (a b c d : Bool) → (a && b && c && d) ≡ true → a ≡ true
and_four_first true b c d e = refl
and_four_first false b c d e = absurd (cc)

pub and_swap : (a b : Bool) → (a && b) ≡ (b && a)
and_swap true true = refl
and_swap true false = refl
and_swap false true = refl
and_swap false false = refl

pub and_three : (a b c : Bool) → a ≡ true → b ≡ true → c ≡ true → (a && b && c) ≡ true
and_three true true true f g h = refl
and_three true true false f g h = absurd (cc)
and_three true false c f g h = absurd (cc)
and_three false b c f g h = absurd (cc)

pub bit_below : (b : Bool) → from_bool b < 2
bit_below true = lit< tt
bit_below false = lit< tt

pub flag_below : (b : Bool) → (if b then 1 else 0) < 2 ^ 32
flag_below true = omega arith
flag_below false = omega arith

pub flags_fine : (b : Bool) → not ((if b then 1 else 0) / 2 % 8 == 0) ≡ false
flags_fine true = refl
flags_fine false = refl

pub one_case_of_four : (l x n w : Bool) → l ≡ true → ((l && x) ≡ true) ⊎ (((l && not x && not n && not w) ≡ true) ⊎ (((l && not x && not n && w) ≡ true) ⊎ ((l && not x && n) ≡ true)))
one_case_of_four true true n w e = inl refl
one_case_of_four true false false false e = inr (inl refl)
one_case_of_four true false false true e = inr (inr (inl refl))
one_case_of_four true false true w e = inr (inr (inr refl))
one_case_of_four false x n w e = absurd (cc)

pub or_false : (a : Bool) → (a || false) ≡ a
or_false true = refl
or_false false = refl

pub or_false_back : (b : Bool) → b ≡ (b || false)
or_false_back true = refl
or_false_back false = refl

pub or_three : (a b c : Bool) → (a || b || c) ≡ true → (a ≡ true) ⊎ ((b ≡ true) ⊎ (c ≡ true))
or_three true b c h = inl refl
or_three false true c h = inr (inl refl)
or_three false false true h = inr (inr refl)
or_three false false false h = absurd (cc)

pub same_tests : (a b : Bool) → (a ≡ true → b ≡ true) → (b ≡ true → a ≡ true) → a ≡ b
same_tests true b f g = sym (f refl)
same_tests false true f g = g refl
same_tests false false f g = refl
