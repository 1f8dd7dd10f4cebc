-- Words that begin with a digit: what each writes is found exactly, and none is both a number and a reference.

use Rattle.std.proofs.Common.{◌≡◌, ℕ, ◌^◌, ◌<◌, Bool, true, false, ◌&&◌, cond, ◌==◌, nat_lt, List, [], ◌∷◌, ◌++◌, length, take, drop, refl, sym, ◌∙◌, ap, subst, arith, Option, Some, None}
use Rattle.std.proofs.lemmas.Bool.{and_parts, and_from, eqb-true, ltb-true}
use Rattle.std.proofs.lemmas.Bool.Decides.{nat_tests}
use Rattle.std.proofs.Math.Seq.{take-append_seam, drop-append_seam, drop-length}
use Rattle.std.proofs.lemmas.List.{take-append-drop, append-nil}
use Rattle.std.specs.List.{list_all, prefix_len}
use Rattle.rv_expression_laws.specs.Bytes.{is_digit, digit, digits_value}
use Rattle.rv_expression_laws.specs.Grammar.{ShowsBase, Decimal, Octal_digits, Hexadecimal_digits, Binary_digits, IsNumber, direction, IsReference}
use Rattle.rv_expression_laws.specs.Front.{number_by, after_zero, word_number, with_direction, reference_in}
use Rattle.rv_expression_laws.proofs.RunsLemmas.{pick, Breaks, run_is, run_all}

not_same : (p : ℕ → Bool) (c n : ℕ) → p c ≡ true → p n ≡ false → (c == n) ≡ false
not_same p c n yes_c no_n = go (c == n) refl
  where
    go : (t : Bool) → (c == n) ≡ t → t ≡ false
    go true e = let same : p c ≡ p n = ap p (eqb-true c n e) in cc
    go false e = refl

-- the base that a good number shows is the one that is taken
shown : (word : List ℕ) (base : ℕ) (digits : List ℕ) → ShowsBase word base digits → list_all (is_digit base) digits ≡ true → word_number word ≡ number_by base digits
unfolding word_number digit
shown _ _ _ (Decimal d ds other) all = rw other refl
shown _ _ _ (Octal_digits []) all = refl
shown _ _ _ (Octal_digits (c ∷ [])) all = refl
shown _ _ _ (Octal_digits (c ∷ d ∷ ds)) all =
    let h = and_parts (is_digit 8 c) (list_all (is_digit 8) (d ∷ ds)) all in
    rw (not_same (is_digit 8) c 120 h.0 refl, not_same (is_digit 8) c 98 h.0 refl) refl
shown _ _ _ (Hexadecimal_digits d ds) all = refl
shown _ _ _ (Binary_digits d ds) all = refl

pub number_is : (word : List ℕ) (n : ℕ) → IsNumber word n → word_number word ≡ Some n
number_is word n is =
    let fits : digits_value is.base is.digits < 2 ^ 64 = rw (sym is.is_value) is.fits in
    let test : nat_lt (digits_value is.base is.digits) (2 ^ 64) ≡ true = grind (arith, nat_tests) in
    shown word is.base is.digits is.shows is.all_digits
    ∙ subst (λ t. cond t (Some (digits_value is.base is.digits)) None ≡ Some n)
    (sym (and_from (list_all (is_digit is.base) is.digits) (nat_lt (digits_value is.base is.digits) (2 ^ 64)) is.all_digits test))
    (ap (λ m. Some m) (sym is.is_value))

-- what an answer says of the word
abbrev NumberAnswers : List ℕ → Option ℕ → Type 0
NumberAnswers word None = Unit {0}
NumberAnswers word (Some n) = IsNumber word n

by_base : (word : List ℕ) (base : ℕ) (digits : List ℕ) → ShowsBase word base digits → NumberAnswers word (number_by base digits)
by_base word base digits shows =
    pick (NumberAnswers word) (list_all (is_digit base) digits && nat_lt (digits_value base digits) (2 ^ 64)) (Some (digits_value base digits)) None
    (λ t.
    let h = and_parts (list_all (is_digit base) digits) (nat_lt (digits_value base digits) (2 ^ 64)) t in
    record { base = base; digits = digits; shows = shows; all_digits = h.0; is_value = refl; fits = ltb-true (digits_value base digits) (2 ^ 64) h.1 })
    (λ _. tt)

number_answers : (word : List ℕ) → NumberAnswers word (word_number word)
unfolding word_number
number_answers [] = tt
number_answers (d ∷ ds) =
    pick (NumberAnswers (d ∷ ds)) (d == 48) _ _
    (λ t. subst (λ c. NumberAnswers (c ∷ ds) (after_zero ds)) (sym (eqb-true d 48 t)) (zero_answers ds))
    (λ f. by_base (d ∷ ds) 10 (d ∷ ds) (Decimal d ds f))
  where
    zero_answers : (ds : List ℕ) → NumberAnswers (48 ∷ ds) (after_zero ds)
    zero_answers [] = by_base (48 ∷ []) 8 [] (Octal_digits [])
    zero_answers (c ∷ []) = by_base (48 ∷ c ∷ []) 8 (c ∷ []) (Octal_digits (c ∷ []))
    zero_answers (c ∷ d ∷ ds) =
        pick (NumberAnswers (48 ∷ c ∷ d ∷ ds)) (c == 120) _ _
        (λ t. subst (λ x. NumberAnswers (48 ∷ x ∷ d ∷ ds) (number_by 16 (d ∷ ds))) (sym (eqb-true c 120 t)) (by_base _ _ _ (Hexadecimal_digits d ds)))
        (λ _. pick (NumberAnswers (48 ∷ c ∷ d ∷ ds)) (c == 98) _ _
        (λ t. subst (λ x. NumberAnswers (48 ∷ x ∷ d ∷ ds) (number_by 2 (d ∷ ds))) (sym (eqb-true c 98 t)) (by_base _ _ _ (Binary_digits d ds)))
        (λ _. by_base _ _ _ (Octal_digits (c ∷ d ∷ ds))))

pub number_found : (word : List ℕ) (n : ℕ) → word_number word ≡ Some n → IsNumber word n
number_found word n e = subst (NumberAnswers word) e (number_answers word)

-- a reference

directed : (digits : List ℕ) (forward : Bool) → with_direction digits (direction forward ∷ []) ≡ Some (digits, forward)
directed digits true = refl
directed digits false = refl

direction_breaks : (forward : Bool) → Breaks (is_digit 10) (direction forward ∷ [])
unfolding digit
direction_breaks true = refl
direction_breaks false = refl

pub reference_is : (word digits : List ℕ) (forward : Bool) → IsReference word digits forward → reference_in word ≡ Some (digits, forward)
unfolding reference_in
reference_is word digits forward (whole, all) =
    ap reference_in whole
    ∙ rw (run_is (is_digit 10) digits (direction forward ∷ []) all (direction_breaks forward), take-append_seam digits (direction forward ∷ []), drop-append_seam digits (direction forward ∷ []))
    (directed digits forward)

abbrev ReferenceAnswers : List ℕ → Option (List ℕ × Bool) → Type 0
ReferenceAnswers word None = Unit {0}
ReferenceAnswers word (Some r) = IsReference word r.0 r.1

direction_answers : (word ds cs : List ℕ) → word ≡ ds ++ cs → list_all (is_digit 10) ds ≡ true → ReferenceAnswers word (with_direction ds cs)
direction_answers word ds [] whole all = tt
direction_answers word ds (c ∷ d ∷ cs) whole all = tt
direction_answers word ds (c ∷ []) whole all =
    pick (ReferenceAnswers word) (c == 102) (Some (ds, true)) _ (λ t. (whole ∙ ap (λ x. ds ++ x ∷ []) (eqb-true c 102 t), all)) (λ _.
    pick (ReferenceAnswers word) (c == 98) (Some (ds, false)) None (λ t. (whole ∙ ap (λ x. ds ++ x ∷ []) (eqb-true c 98 t), all)) (λ _. tt))

reference_answers : (word : List ℕ) → ReferenceAnswers word (reference_in word)
unfolding reference_in
reference_answers word =
    let n = prefix_len (is_digit 10) word in
    direction_answers word (take n word) (drop n word) (sym (take-append-drop n word)) (run_all (is_digit 10) word)

pub reference_found : (word digits : List ℕ) (forward : Bool) → reference_in word ≡ Some (digits, forward) → IsReference word digits forward
reference_found word digits forward e = subst (ReferenceAnswers word) e (reference_answers word)

-- digits alone are no reference

all_digits_none : (word : List ℕ) → list_all (is_digit 10) word ≡ true → reference_in word ≡ None
unfolding reference_in
all_digits_none word all =
    let n : prefix_len (is_digit 10) word ≡ length word = ap (prefix_len (is_digit 10)) (sym (append-nil word)) ∙ run_is (is_digit 10) word [] all tt in
    rw (n, drop-length word) refl

octal_decimal : (ds : List ℕ) → list_all (is_digit 8) ds ≡ true → list_all (is_digit 10) ds ≡ true
octal_decimal [] all = refl
octal_decimal (d ∷ ds) all =
    let h = and_parts (is_digit 8 d) (list_all (is_digit 8) ds) all in
    let low : digit d < 8 = ltb-true (digit d) 8 h.0 in
    let lower : is_digit 10 d ≡ true = grind (arith, nat_tests) in
    and_from (is_digit 10 d) (list_all (is_digit 10) ds) lower (octal_decimal ds h.1)

no_reference : (word : List ℕ) (base : ℕ) (digits : List ℕ) → ShowsBase word base digits → list_all (is_digit base) digits ≡ true → reference_in word ≡ None
unfolding reference_in digit
no_reference _ _ _ (Decimal d ds other) all = all_digits_none (d ∷ ds) all
no_reference _ _ _ (Octal_digits ds) all = all_digits_none (48 ∷ ds) (octal_decimal (48 ∷ ds) all)
no_reference _ _ _ (Hexadecimal_digits d ds) all = refl
no_reference _ _ _ (Binary_digits d ds) all = refl

pub number_no_reference : (word : List ℕ) (n : ℕ) → IsNumber word n → reference_in word ≡ None
number_no_reference word n is = no_reference word is.base is.digits is.shows is.all_digits

-- where a word writes nothing

pub no_number : (word : List ℕ) → ((n : ℕ) → IsNumber word n → ⊥) → word_number word ≡ None
no_number word none = go (word_number word) refl
  where
    go : (o : Option ℕ) → word_number word ≡ o → o ≡ None
    go None e = refl
    go (Some n) e = absurd (none n (number_found word n e))

pub no_reference_in : (word : List ℕ) → ((digits : List ℕ) (forward : Bool) → IsReference word digits forward → ⊥) → reference_in word ≡ None
no_reference_in word none = go (reference_in word) refl
  where
    go : (o : Option (List ℕ × Bool)) → reference_in word ≡ o → o ≡ None
    go None e = refl
    go (Some (digits, forward)) e = absurd (none digits forward (reference_found word digits forward e))
