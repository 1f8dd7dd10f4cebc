-- Where a string ends, by what a search of a zero byte says.

use Rattle.std.proofs.Common.{◌≡◌, ℕ, zero, suc, ◌<◌, true, false, List, [], ◌∷◌, length, get_or, take, drop, ◌-◌, ◌≤◌, Option, Some, None, refl, arith}
use Rattle.std.specs.Prelude.{option_map, ◌==◌}
use Rattle.std.specs.List.{slice_range}
use Rattle.std.proofs.lemmas.Bool.{false_from_ne_true}
use Rattle.std.proofs.lemmas.List.{take_all, length-drop}
use Rattle.memchr.specs.Find.{IsFirstByte, is_byte}
use Rattle.rv_elf_laws.specs.Sections.{before_zero}

-- after a byte that is not zero
behind : (byte : ℕ) (bytes : List ℕ) (r : Option (List ℕ)) → (byte == 0) ≡ false → before_zero bytes ≡ r → before_zero (byte ∷ bytes) ≡ option_map (λ name. byte ∷ name) r
behind byte bytes r test rest = rw (test, rest) refl

pub no_zero : (bytes : List ℕ) → ((k : ℕ) → k < length bytes → (get_or bytes k 0 == 0) ≡ true → ⊥) → before_zero bytes ≡ None
no_zero [] none = refl
no_zero (byte ∷ bytes) none =
    behind byte bytes None (false_from_ne_true _ (none 0 (omega arith)))
    (no_zero bytes (λ k l. none (suc k) (omega (arith, l))))

pub zero_at : (bytes : List ℕ) (k : ℕ) → k < length bytes → ((j : ℕ) → j < k → (get_or bytes j 0 == 0) ≡ true → ⊥) → (get_or bytes k 0 == 0) ≡ true → before_zero bytes ≡ Some (take k bytes)
zero_at [] k l none here = absurd (omega (arith, l))
zero_at (byte ∷ bytes) zero l none here = rw here refl
zero_at (byte ∷ bytes) (suc k) l none here =
    behind byte bytes (Some (take k bytes)) (false_from_ne_true _ (none 0 (omega arith)))
    (zero_at bytes k (omega (arith, l)) (λ j m. none (suc j) (omega (arith, m))) here)

-- from a place of the bytes on, as a slice
pub rest_is : (bytes : List ℕ) (place : ℕ) → place ≤ length bytes → slice_range bytes place (length bytes) ≡ drop place bytes
rest_is bytes place l = take_all (length bytes - place) (drop place bytes) (omega (arith, length-drop place bytes))

pub no_string : (bytes : List ℕ) → IsFirstByte (is_byte 0) bytes None → before_zero bytes ≡ None
no_string bytes h = no_zero bytes (λ k l. h k (omega arith) l)

pub string_there : (bytes : List ℕ) (k : ℕ) → IsFirstByte (is_byte 0) bytes (Some k) → before_zero bytes ≡ Some (take k bytes)
string_there bytes k h = zero_at bytes k h.0.high (λ j l. h.0.before j (omega arith) l) h.1
