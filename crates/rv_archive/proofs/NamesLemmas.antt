-- Where a byte stands first, by what a search says.

use Rattle.std.proofs.Common.{◌≡◌, ◌⊎◌, inl, inr, ℕ, zero, suc, ◌-◌, ◌<◌, ◌≤◌, Bool, true, false, cond, ltb, List, length, take, drop, min, Option, Some, None, refl, sym, ap, ◌∙◌, arith}
use Rattle.std.proofs.lemmas.List.{drop_all, take_all, length-drop}
use Rattle.std.specs.List.{position_or_len}
use Rattle.std.proofs.lemmas.Bool.{le-ltb, lt-ltb, false_from_ne_true}
use Rattle.std.proofs.lemmas.List.Sums.{position_or_len_is}
use Rattle.memchr.specs.Find.{IsFirstByte, is_byte}
use Rattle.rv_archive_laws.specs.Names.{first_byte, longest_name, line_at, long_name}

position_by : (byte : ℕ) (bytes : List ℕ) (k : ℕ) (t : Bool) → position_or_len (is_byte byte) bytes ≡ k → ltb k (length bytes) ≡ t → first_byte byte bytes ≡ cond t (Some k) None
position_by byte bytes k t place test = rw (place, test) refl

pub first_is : (byte : ℕ) (bytes : List ℕ) (r : Option ℕ) → IsFirstByte (is_byte byte) bytes r → r ≡ first_byte byte bytes
first_is byte bytes None h =
    sym (position_by byte bytes (length bytes) false
    (position_or_len_is (is_byte byte) bytes (length bytes) 0 (omega arith) (λ k l. false_from_ne_true _ (h k (omega arith) l)) (λ l. absurd (omega arith)))
    (le-ltb _ _ (omega arith)))
first_is byte bytes (Some k) h =
    sym (position_by byte bytes k true
    (position_or_len_is (is_byte byte) bytes k 0 (omega (arith, h.0.high)) (λ j l. false_from_ne_true _ (h.0.before j (omega arith) l)) (λ l. h.1))
    (lt-ltb _ _ h.0.high))

-- ---- a name in the table of long names

line_past : (table : List ℕ) (offset : ℕ) → length table < offset → long_name table offset ≡ None
line_past table offset past = ap (λ rest. line_at (take longest_name rest) (first_byte 10 (take longest_name rest))) (drop_all offset table (omega (arith, past)))

pub rest_is : (table : List ℕ) (offset : ℕ) → take (length table - offset) (drop offset table) ≡ drop offset table
rest_is table offset = take_all (length table - offset) (drop offset table) (omega (arith, length-drop offset table))

-- no table stands there
pub nowhere : (table : List ℕ) (offset : ℕ) → (length table < offset) ⊎ (length table < length table) → long_name table offset ≡ None
nowhere table offset (inl past) = line_past table offset past
nowhere table offset (inr past) = absurd (omega (arith, past))

min_first : (a b : ℕ) → a ≤ b → min a b ≡ a
min_first a b le = omega (arith, le)

min_second : (a b : ℕ) → b ≤ a → min a b ≡ b
min_second a b le = omega (arith, le)

pub either : (j k : ℕ) → (j < k) ⊎ (k ≤ j)
either j zero = inr (omega arith)
either zero (suc k) = inl (omega arith)
either (suc j) (suc k) = elim (either j k) [ inl less ↦ inl (omega (arith, less)) | inr le ↦ inr (omega (arith, le)) ]

short : (bytes : List ℕ) (m : ℕ) → take (min (length bytes) m) bytes ≡ take m bytes
short bytes m =
    elim (either (length bytes) m) [
      | inl less ↦ ap (λ k. take k bytes) (min_first (length bytes) m (omega (arith, less))) ∙ take_all (length bytes) bytes (omega arith) ∙ sym (take_all m bytes (omega (arith, less)))
      | inr le ↦ ap (λ k. take k bytes) (min_second (length bytes) m le)
    ]

cut_by : (bytes : List ℕ) (n m : ℕ) → n ≡ min (length bytes) m → take n bytes ≡ take m bytes
cut_by bytes n m is = ap (λ k. take k bytes) is ∙ short bytes m

-- the line that is looked at, as the code cuts it
pub line_is : (table rest : List ℕ) (offset n : ℕ) → rest ≡ take (length table - offset) (drop offset table) → n ≡ min (length rest) longest_name → take n rest ≡ take longest_name (drop offset table)
line_is table rest offset n is cut = cut_by rest n longest_name cut ∙ ap (take longest_name) (is ∙ rest_is table offset)

pub long_by : (table line : List ℕ) (offset : ℕ) (end : Option ℕ) → line ≡ take longest_name (drop offset table) → end ≡ first_byte 10 line → long_name table offset ≡ line_at line end
long_by table line offset end is at = ap (λ l. line_at l (first_byte 10 l)) (sym is) ∙ ap (line_at line) (sym at)
