-- Where a block comment ends: the first `*/` is found exactly.

use Rattle.std.proofs.Common.{◌≡◌, ℕ, suc, Bool, true, false, ◌&&◌, ◌==◌, List, [], ◌∷◌, ◌++◌, length, refl, ◌∙◌, ap, arith, length-append, Option, Some, None, option_map}
use Rattle.std.proofs.lemmas.Bool.{and_parts, eqb-true}
use Rattle.rv_expression_laws.specs.Grammar.{NoClose}
use Rattle.rv_expression_laws.specs.Front.{has_first, close_at}
use Rattle.rv_expression_laws.proofs.RunsLemmas.{pick}

pub begins_is : (c : ℕ) (xs : List ℕ) → has_first c xs ≡ true → (rest : List ℕ) × (xs ≡ c ∷ rest)
begins_is c [] h = cc
begins_is c (b ∷ bs) h = (bs, ap (λ x. x ∷ bs) (eqb-true b c h))

-- no `*/` in front of the one that ends it
first_is_none : (b : ℕ) (bs rest : List ℕ) → NoClose (b ∷ (bs ++ 42 ∷ [])) → ((b == 42) && has_first 47 (bs ++ 42 ∷ 47 ∷ rest)) ≡ false
first_is_none b bs rest none = go ((b == 42) && has_first 47 (bs ++ 42 ∷ 47 ∷ rest)) refl
  where
    closed : (bs : List ℕ) → NoClose (b ∷ (bs ++ 42 ∷ [])) → b ≡ 42 → has_first 47 (bs ++ 42 ∷ 47 ∷ rest) ≡ true → ⊥
    closed [] none is h = cc
    closed (c ∷ cs) none is h = none [] (cs ++ 42 ∷ []) (let e : c ≡ 47 = eqb-true c 47 h in rw (is, e) refl)

    go : (t : Bool) → ((b == 42) && has_first 47 (bs ++ 42 ∷ 47 ∷ rest)) ≡ t → t ≡ false
    go false e = refl
    go true e =
        let h = and_parts (b == 42) (has_first 47 (bs ++ 42 ∷ 47 ∷ rest)) e in
        absurd (closed bs none (eqb-true b 42 h.0) h.1)

pub close_is : (inside rest : List ℕ) → NoClose (inside ++ 42 ∷ []) → close_at (inside ++ 42 ∷ 47 ∷ rest) ≡ Some (length inside)
close_is [] rest none = refl
close_is (b ∷ bs) rest none =
    rw (first_is_none b bs rest none, close_is bs rest (λ front back e. none (b ∷ front) back (ap (λ xs. b ∷ xs) e))) refl

-- what an answer says of the bytes
pub record Closed (bs : List ℕ) (n : ℕ) : Type 0 where
  pub inside : List ℕ
  pub rest : List ℕ
  pub whole : bs ≡ inside ++ 42 ∷ 47 ∷ rest
  pub is_length : n ≡ length inside
  pub first : NoClose (inside ++ 42 ∷ [])

abbrev pub CloseAnswers : List ℕ → Option ℕ → Type 0
CloseAnswers bs None = Unit {0}
CloseAnswers bs (Some n) = Closed bs n

nothing_in_one : NoClose (42 ∷ [])
nothing_in_one front back e = absurd (omega (arith, length-append front (42 ∷ 47 ∷ back), ap length e))

-- one more byte in front
one_more : (b : ℕ) (bs : List ℕ) (n : ℕ) → ((b == 42) && has_first 47 bs) ≡ false → Closed bs n → Closed (b ∷ bs) (suc n)
one_more b bs n no_close c = record {
  inside = b ∷ c.inside;
  rest = c.rest;
  whole = ap (λ xs. b ∷ xs) c.whole;
  is_length = ap suc c.is_length;
  first = λ front back e. none front back e;
}
  where
    opens : (inside back : List ℕ) → bs ≡ inside ++ 42 ∷ 47 ∷ c.rest → inside ++ 42 ∷ [] ≡ 47 ∷ back → has_first 47 bs ≡ true
    opens [] back whole e = cc
    opens (x ∷ xs) back whole e = let is : x ≡ 47 = cc in rw (whole, is) refl

    none : (front back : List ℕ) → b ∷ (c.inside ++ 42 ∷ []) ≡ front ++ 42 ∷ 47 ∷ back → ⊥
    none [] back e =
        let is : b ≡ 42 = cc in
        let tail : c.inside ++ 42 ∷ [] ≡ 47 ∷ back = cc in
        let t : ((b == 42) && has_first 47 bs) ≡ true = rw (is, opens c.inside back c.whole tail) refl in
        cc
    none (f ∷ front) back e =
        let tail : c.inside ++ 42 ∷ [] ≡ front ++ 42 ∷ 47 ∷ back = cc in
        c.first front back tail

pub close_answers : (bs : List ℕ) → CloseAnswers bs (close_at bs)
close_answers [] = tt
close_answers (b ∷ bs) =
    pick (CloseAnswers (b ∷ bs)) ((b == 42) && has_first 47 bs) (Some 0) _
    (λ t.
    let h = and_parts (b == 42) (has_first 47 bs) t in
    let r = begins_is 47 bs h.1 in
    let is : b ≡ 42 = eqb-true b 42 h.0 in
    record { inside = []; rest = r.0; whole = ap (λ x. x ∷ bs) is ∙ ap (λ xs. 42 ∷ xs) r.1; is_length = refl; first = nothing_in_one })
    (λ f. go (close_at bs) (close_answers bs) f)
  where
    go : (o : Option ℕ) → CloseAnswers bs o → ((b == 42) && has_first 47 bs) ≡ false → CloseAnswers (b ∷ bs) (option_map (λ n. suc n) o)
    go None c f = tt
    go (Some n) c f = one_more b bs n f c
