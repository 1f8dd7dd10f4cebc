-- A word refers to a numeric label exactly where a letter of a direction stands behind digits.

use Rattle.std.proofs.Common.{◌≡◌, ℕ, zero, suc, ◌-◌, ◌<◌, Bool, true, false, ◌==◌, ◌||◌, ◌&&◌, List, [], ◌∷◌, ◌++◌, get_or, take, length, refl, sym, ◌∙◌, ap, arith, length-append, Option, Some, None}
use Rattle.std.specs.Prelude.{is_some}
use Rattle.std.specs.List.{list_all}
use Rattle.std.proofs.Math.Seq.{take-append_seam}
use Rattle.std.proofs.lemmas.Bool.{and_parts, eqb-true}
use Rattle.rv_expression_laws.specs.Bytes.{is_digit}
use Rattle.rv_expression_laws.specs.Grammar as grammar
use Rattle.rv_expression_laws.specs.Grammar.{direction, IsReference}
use Rattle.rv_expression_laws.specs.Front.{reference_in, digits_kind}
use Rattle.rv_expression_laws.proofs.NumbersLemmas.{reference_is, reference_found}
use Rattle.rv_lexer.specs.Reference.{digits_in, is_ahead}

last_there : (ds : List ℕ) (c : ℕ) → get_or (ds ++ c ∷ []) (length ds) 0 ≡ c
last_there [] c = refl
last_there (d ∷ ds) c = last_there ds c

one_less : (ds : List ℕ) (c : ℕ) → length (ds ++ c ∷ []) - 1 ≡ length ds
one_less ds c = omega (arith, length-append ds (c ∷ []))

-- the parts of digits and a letter
digits_there : (word ds : List ℕ) (c : ℕ) → word ≡ ds ++ c ∷ [] → take (length word - 1) word ≡ ds
digits_there word ds c is = ap (λ (w : List ℕ). take (length w - 1) w) is ∙ ap (λ n. take n (ds ++ c ∷ [])) (one_less ds c) ∙ take-append_seam ds (c ∷ [])

letter_there : (word ds : List ℕ) (c : ℕ) → word ≡ ds ++ c ∷ [] → get_or word (length word - 1) 0 ≡ c
letter_there word ds c is = ap (λ (w : List ℕ). get_or w (length w - 1) 0) is ∙ ap (λ n. get_or (ds ++ c ∷ []) n 0) (one_less ds c) ∙ last_there ds c

parts_of : (word : List ℕ) (n : ℕ) → length word ≡ suc n → word ≡ take n word ++ get_or word n 0 ∷ []
parts_of [] n e = absurd (omega (arith, e))
parts_of (x ∷ []) zero e = refl
parts_of (x ∷ []) (suc n) e = absurd (omega (arith, e))
parts_of (x ∷ y ∷ ys) zero e = absurd (omega (arith, e))
parts_of (x ∷ y ∷ ys) (suc n) e = ap (λ (l : List ℕ). x ∷ l) (parts_of (y ∷ ys) n (omega (arith, e)))

is_letter : (forward : Bool) → ((direction forward == 102) || (direction forward == 98)) ≡ true
is_letter true = refl
is_letter false = refl

letter_leads : (forward : Bool) → (direction forward == 102) ≡ forward
letter_leads true = refl
letter_leads false = refl

led_by : (c : ℕ) → ((c == 102) || (c == 98)) ≡ true → c ≡ direction (c == 102)
led_by c e = go (c == 102) refl e
  where
    go : (b : Bool) → (c == 102) ≡ b → (b || (c == 98)) ≡ true → c ≡ direction b
    go true is e = eqb-true c 102 is
    go false is e = eqb-true c 98 e

refers_there : (word : List ℕ) (n : ℕ) → length word ≡ suc n → (((get_or word n 0 == 102) || (get_or word n 0 == 98)) && list_all (is_digit 10) (take n word)) ≡ true
    → reference_in word ≡ Some (take n word, get_or word n 0 == 102)
refers_there word n long e =
    let a = and_parts ((get_or word n 0 == 102) || (get_or word n 0 == 98)) (list_all (is_digit 10) (take n word)) e in
    reference_is word (take n word) (get_or word n 0 == 102)
    (parts_of word n long ∙ ap (λ (c : ℕ). take n word ++ c ∷ []) (led_by (get_or word n 0) a.0), a.1)

pub refers_by : (word : List ℕ) → 0 < length word
    → (((get_or word (length word - 1) 0 == 102) || (get_or word (length word - 1) 0 == 98)) && list_all (is_digit 10) (take (length word - 1) word)) ≡ is_some (reference_in word)
refers_by word some = go (reference_in word) refl
  where
    tests : Bool
    tests = ((get_or word (length word - 1) 0 == 102) || (get_or word (length word - 1) 0 == 98)) && list_all (is_digit 10) (take (length word - 1) word)

    none : (b : Bool) → tests ≡ b → reference_in word ≡ None → b ≡ false
    none false is e = refl
    none true is e = absurd (cc (e, refers_there word (length word - 1) (omega (arith, some)) is))

    go : (o : Option (List ℕ × Bool)) → reference_in word ≡ o → tests ≡ is_some o
    go None e = none tests refl e
    go (Some r) e =
        let w = reference_found word r.0 r.1 e in
        rw (letter_there word r.0 (direction r.1) w.0, digits_there word r.0 (direction r.1) w.0, is_letter r.1, w.1) refl

pub wordless : (word : List ℕ) → length word < 1 → false ≡ is_some (reference_in word)
unfolding reference_in
wordless [] none = refl
wordless (c ∷ cs) none = absurd (omega arith)

-- the token of a word that refers to a label, and of one that does not
referred_kind : (word : List ℕ) → is_some (reference_in word) ≡ true → grammar.Reference (digits_in word) (is_ahead word) ≡ digits_kind word (reference_in word)
referred_kind word some = go (reference_in word) refl some
  where
    go : (o : Option (List ℕ × Bool)) → reference_in word ≡ o → is_some o ≡ true → grammar.Reference (digits_in word) (is_ahead word) ≡ digits_kind word o
    go None e some = absurd (cc)
    go (Some r) e some =
        let w = reference_found word r.0 r.1 e in
        ap (λ (d : List ℕ). grammar.Reference d (is_ahead word)) (digits_there word r.0 (direction r.1) w.0)
        ∙ ap (λ (f : Bool). grammar.Reference r.0 f) (ap (λ (c : ℕ). c == 102) (letter_there word r.0 (direction r.1) w.0) ∙ letter_leads r.1)

pub referred_same : (word other : List ℕ) → word ≡ other → is_some (reference_in word) ≡ true → grammar.Reference (digits_in word) (is_ahead word) ≡ digits_kind other (reference_in other)
referred_same word other same some = referred_kind word some ∙ ap (λ (w : List ℕ). digits_kind w (reference_in w)) same

-- a word that refers to a label is its digits and the letter
pub spelled_reference : (word : List ℕ) → is_some (reference_in word) ≡ true → digits_in word ++ direction (is_ahead word) ∷ [] ≡ word
spelled_reference word some = go (reference_in word) refl some
  where
    go : (o : Option (List ℕ × Bool)) → reference_in word ≡ o → is_some o ≡ true → digits_in word ++ direction (is_ahead word) ∷ [] ≡ word
    go None e some = absurd (cc)
    go (Some r) e some =
        let w = reference_found word r.0 r.1 e in
        ap (λ (d : List ℕ). d ++ direction (is_ahead word) ∷ []) (digits_there word r.0 (direction r.1) w.0)
        ∙ ap (λ (f : Bool). r.0 ++ direction f ∷ []) (ap (λ (c : ℕ). c == 102) (letter_there word r.0 (direction r.1) w.0) ∙ letter_leads r.1)
        ∙ sym w.0
