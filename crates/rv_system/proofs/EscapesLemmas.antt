-- What `memchr` finds.

use Rattle.std.proofs.Common.{◌≡◌, ℕ, ◌<◌, Bool, true, false, List, [], ◌∷◌, length, get_or, take, drop, refl, sym, ◌∙◌, ap, arith, Option, Some, None}
use Rattle.std.specs.Prelude.{suc, is_some, ◌||◌}
use Rattle.std.proofs.lemmas.List.{take-append-drop}
use Rattle.std.proofs.lemmas.List.Folds.{list_any_at, list_any-append}
use Rattle.std.specs.List.{list_any}
use Rattle.memchr.specs.Find.{IsFirstByte, is_byte}
use Rattle.rv_system.specs.Unpainted.{is_escape}

none_any : (bytes : List ℕ) → ((k : ℕ) → k < length bytes → is_escape (get_or bytes k 0) ≡ true → ⊥) → list_any is_escape bytes ≡ false
none_any [] h = refl
none_any (b ∷ bs) h = go (is_escape b) refl (none_any bs (λ k lt e. h (suc k) (omega arith) e))
  where
    go : (t : Bool) → is_escape b ≡ t → list_any is_escape bs ≡ false → (t || list_any is_escape bs) ≡ false
    go true e more = absurd (h 0 (omega arith) e)
    go false e more = more

pub found_any : (hay : List ℕ) (r : Option ℕ) → IsFirstByte (is_byte 27) hay r → is_some r ≡ list_any is_escape hay
found_any hay None h = sym (none_any hay (λ k lt e. h k (omega arith) lt e))
found_any hay (Some k) h = sym (list_any_at is_escape hay k 0 h.0.high h.1)

left_of_or : (a b : Bool) → (a || b) ≡ false → a ≡ false
left_of_or true b h = h
left_of_or false b h = refl

right_of_or : (a b : Bool) → (a || b) ≡ false → b ≡ false
right_of_or true b h = cc
right_of_or false b h = h

-- the parts of a text without escapes have none
pub none_before : (i : ℕ) (bytes : List ℕ) → list_any is_escape bytes ≡ false → list_any is_escape (take i bytes) ≡ false
none_before i bytes h =
    left_of_or _ (list_any is_escape (drop i bytes)) (sym (list_any-append is_escape (take i bytes) (drop i bytes)) ∙ ap (list_any is_escape) (take-append-drop i bytes) ∙ h)

pub none_behind : (i : ℕ) (bytes : List ℕ) → list_any is_escape bytes ≡ false → list_any is_escape (drop i bytes) ≡ false
none_behind i bytes h =
    right_of_or (list_any is_escape (take i bytes)) _ (sym (list_any-append is_escape (take i bytes) (drop i bytes)) ∙ ap (list_any is_escape) (take-append-drop i bytes) ∙ h)
