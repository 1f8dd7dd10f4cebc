-- Where a byte or a front ends, by what the searches say.

use Rattle.std.proofs.Common.{◌≡◌, ℕ, ◌+◌, ◌-◌, ◌<◌, Bool, true, false, cond, ltb, List, [], ◌∷◌, ◌++◌, length, get_or, take, drop, Option, Some, None, Bor, refl, sym, ap, ◌∙◌, arith, append_assoc}
use Rattle.std.specs.List.{position_or_len}
use Rattle.std.specs.Str.{bytes_eq}
use Rattle.std.proofs.Math.ListN.{get_or-append}
use Rattle.std.proofs.Math.Seq.{get_or-append_seam}
use Rattle.std.proofs.lemmas.Bool.{le-ltb, lt-ltb, eq-eqb, ne_eqb, false_from_ne_true}
use Rattle.std.proofs.lemmas.List.{take_all, take_at, drop_at, length-drop, length-append}
use Rattle.std.proofs.lemmas.Slice.Eq.{bytes_eq-Decides, strip_prefix_is}
use Rattle.std.proofs.lemmas.Bool.Decides.{Decides-eqb}
use Rattle.std.specs.Prelude.{MatchOption, IfSome}
use Rattle.std.proofs.lemmas.List.Sums.{position_or_len_is}
use Rattle.memchr.specs.Find.{IsFirstByte, is_byte}
use Rattle.rv_map.specs.Reading.{cut_at, behind}

behind_seam : (word : List ℕ) (end : ℕ) (rest : List ℕ) → drop (length word + 1) (word ++ end ∷ rest) ≡ rest
behind_seam word end rest =
    ap (drop (length word + 1)) (sym (append_assoc word (end ∷ []) rest))
    ∙ drop_at (word ++ end ∷ []) rest (length word + 1) (omega (arith, length-append word (end ∷ [])))

cut_by : (end : ℕ) (bytes : List ℕ) (k : ℕ) (t : Bool) → position_or_len (is_byte end) bytes ≡ k → ltb k (length bytes) ≡ t → cut_at end bytes ≡ cond t (Some (take k bytes, drop (k + 1) bytes)) None
unfolding cut_at
cut_by end bytes k t place test = rw (place, test) refl

pub cut_nowhere : (end : ℕ) (bytes : List ℕ) → IsFirstByte (is_byte end) bytes None → cut_at end bytes ≡ None
cut_nowhere end bytes h =
    cut_by end bytes (length bytes) false
    (position_or_len_is (is_byte end) bytes (length bytes) 0 (omega arith) (λ k l. false_from_ne_true _ (h k (omega arith) l)) (λ l. absurd (omega arith)))
    (le-ltb _ _ (omega arith))

pub cut_there : (end : ℕ) (bytes : List ℕ) (k : ℕ) → IsFirstByte (is_byte end) bytes (Some k) → cut_at end bytes ≡ Some (take k bytes, drop (k + 1) bytes)
cut_there end bytes k h =
    cut_by end bytes k true
    (position_or_len_is (is_byte end) bytes k 0 (omega (arith, h.0.high)) (λ j l. false_from_ne_true _ (h.0.before j (omega arith) l)) (λ l. h.1))
    (lt-ltb _ _ h.0.high)

-- as the slices of the code
pub cut_slices : (end : ℕ) (bytes : List ℕ) (k : ℕ) → IsFirstByte (is_byte end) bytes (Some k) → cut_at end bytes ≡ Some (take k bytes, take (length bytes - (k + 1)) (drop (k + 1) bytes))
cut_slices end bytes k h =
    cut_there end bytes k h
    ∙ ap (λ (rest : List ℕ). Some (take k bytes, rest)) (sym (take_all (length bytes - (k + 1)) (drop (k + 1) bytes) (omega (arith, length-drop (k + 1) bytes))))

-- what was joined is cut there again
pub cut_again : (end : ℕ) (word rest : List ℕ) → ((k : ℕ) → k < length word → get_or word k 0 ≡ end → ⊥) → cut_at end (word ++ end ∷ rest) ≡ Some (word, rest)
cut_again end word rest none =
    let whole = word ++ end ∷ rest in
    let long : length word < length whole = omega (arith, length-append word (end ∷ rest)) in
    let place : position_or_len (is_byte end) whole ≡ length word =
    position_or_len_is (is_byte end) whole (length word) 0 (omega arith)
    (λ k l. ne_eqb _ end (λ same. none k l (sym (get_or-append word (end ∷ rest) 0 k l) ∙ same)))
    (λ l. eq-eqb _ end (get_or-append_seam word end rest 0)) in
    cut_by end whole (length word) true place (lt-ltb _ _ long)
    ∙ ap (λ (parts : List ℕ × List ℕ). Some parts) (λ i. (take_at word (end ∷ rest) (length word) refl i, behind_seam word end rest i))

-- a front that stands there
pub behind_again : (front rest : List ℕ) → behind front (front ++ rest) ≡ Some rest
unfolding behind
behind_again front rest = rw (take_at front rest (length front) refl, (bytes_eq-Decides front front).1 refl, drop_at front rest (length front) refl) refl

-- what `strip_prefix` leaves comes after the front
pub stripped : (front bytes : List ℕ) (r : Option (Bor (List ℕ)))
    → MatchOption r (bytes_eq (take (length front) bytes) front ≡ false) (λ x. (bytes_eq (take (length front) bytes) front ≡ true) × (x.now ≡ drop (length front) bytes) × (length x.now + length front ≡ length bytes))
    → IfSome r (λ x. bytes ≡ front ++ x.now)
stripped front bytes None h = tt
stripped front bytes (Some x) h = strip_prefix_is Decides-eqb bytes front (Some x) h
