-- A value and the number that plain arithmetic gives go together, operator by operator.

use Rattle.std.proofs.Common.{◌≡◌, ℕ, ◌-◌, ◌%◌, ◌^◌, ◌<◌, Bool, true, false, ◌==◌, if◌then◌else◌, Option, Some, None, option_map, option_and_then, IfSome, refl, sym, ◌∙◌, ap, subst, arith}
use Rattle.std.proofs.lemmas.Bool.{eqb-true}
use Rattle.rv_expression_laws.specs.declared.operator.UnaryOperator.{UnaryOperator}
use Rattle.rv_expression_laws.specs.declared.operator.UnaryOperator.TheVariants.{Negate, Complement, Keep}
use Rattle.rv_expression_laws.specs.declared.operator.BinaryOperator.{BinaryOperator}
use Rattle.rv_expression_laws.specs.declared.operator.BinaryOperator.TheVariants.{Multiply, Divide, Remainder, ShiftLeft, ShiftRight, Or, And, ExclusiveOr, Add, Subtract}
use Rattle.rv_expression_laws.specs.Expression.{Primary}
use Rattle.rv_expression_laws.specs.Values.{Meaning, Known, InSection, Open, Refused, Value, Constant, Symbolic, Difference, Faulty, add, subtract, arithmetic, apart, sum, difference, constants_alone, both, unary_value, meant}
use Rattle.rv_source_laws.specs.Program.{resolved}
use Rattle.rv_value_theorems.specs.Plain.{of_one, of_two, of_both}
use Rattle.rv_value_theorems.specs.Agreement.{HasForm}
use Rattle.rv_value_theorems.proofs.WrapsLemmas.{add_small, add_below, subtract_below, add_add, add_comm, add_subtract, add_subtract_both, subtract_base}

-- the number of a symbol that stays in a value
abbrev pub IsPlaced : (ℕ → ℕ) → Meaning → Option ℕ → Type 0
IsPlaced base (Known n) number = ⊥
IsPlaced base (InSection section offset) number = (offset < 2 ^ 64) × (number ≡ Some (add (base section) offset))
IsPlaced base Open number = IfSome number (λ x. x < 2 ^ 64)
IsPlaced base (Refused code) number = ⊥

-- a value, and the number beside it
abbrev pub Standing : (ℕ → ℕ) → (Primary → Option ℕ) → Value → Option ℕ → Type 0
Standing base a (Constant n) r = r ≡ Some n
Standing base a (Symbolic p at k) r = (k < 2 ^ 64) × IsPlaced base at (a p) × (r ≡ option_map (λ x. add x k) (a p))
Standing base a (Difference p q k) r = r ≡ option_and_then (λ x. option_map (λ y. add (subtract x y) k) (a q)) (a p)
Standing base a (Faulty code) r = Unit {0}

pub resolved_is : (base : ℕ → ℕ) (a : Primary → Option ℕ) (v : Value) (r : Option ℕ) → Standing base a v r → HasForm v → resolved a v ≡ r
resolved_is base a (Constant n) r st form = sym st
resolved_is base a (Symbolic p at k) r st form = sym st.2
resolved_is base a (Difference p q k) r st form = sym st
resolved_is base a (Faulty code) r st form = absurd form

-- ---- numbers that may be missing

whole : (n : Option ℕ) → IfSome n (λ x. x < 2 ^ 64) → n ≡ option_map (λ x. add x 0) n
whole None small = refl
whole (Some x) small = ap Some (sym (add_small x small))

placed_small : (base : ℕ → ℕ) (at : Meaning) (n : Option ℕ) → IsPlaced base at n → IfSome n (λ x. x < 2 ^ 64)
placed_small base (Known k) n placed = absurd placed
placed_small base (InSection s o) n placed = rw placed.1 (add_below (base s) o)
placed_small base Open n placed = placed
placed_small base (Refused code) n placed = absurd placed

pub kept : (r : Option ℕ) → r ≡ option_map (of_one Keep) r
kept None = refl
kept (Some x) = refl

pub negated : (c : ℕ) → (2 ^ 64 - c) % 2 ^ 64 ≡ subtract 0 c
negated c = omega arith

symbol_plus : (k b : ℕ) (n : Option ℕ) → of_both Add (option_map (λ x. add x k) n) (Some b) ≡ option_map (λ x. add x (add k b)) n
symbol_plus k b None = refl
symbol_plus k b (Some x) = ap Some (sym (add_add x k b))

plus_symbol : (k b : ℕ) (n : Option ℕ) → of_both Add (Some b) (option_map (λ x. add x k) n) ≡ option_map (λ x. add x (add k b)) n
plus_symbol k b None = refl
plus_symbol k b (Some x) = ap Some (add_comm b (add x k) ∙ sym (add_add x k b))

symbol_minus : (k b : ℕ) (n : Option ℕ) → of_both Subtract (option_map (λ x. add x k) n) (Some b) ≡ option_map (λ x. add x (subtract k b)) n
symbol_minus k b None = refl
symbol_minus k b (Some x) = ap Some (sym (add_subtract x k b))

abbrev between : ℕ → Option ℕ → Option ℕ → Option ℕ
between k n m = option_and_then (λ x. option_map (λ y. add (subtract x y) k) m) n

difference_plus : (k b : ℕ) (n m : Option ℕ) → of_both Add (between k n m) (Some b) ≡ between (add k b) n m
difference_plus k b None m = refl
difference_plus k b (Some x) None = refl
difference_plus k b (Some x) (Some y) = ap Some (sym (add_add (subtract x y) k b))

plus_difference : (k b : ℕ) (n m : Option ℕ) → of_both Add (Some b) (between k n m) ≡ between (add k b) n m
plus_difference k b None m = refl
plus_difference k b (Some x) None = refl
plus_difference k b (Some x) (Some y) = ap Some (add_comm b (add (subtract x y) k) ∙ sym (add_add (subtract x y) k b))

difference_minus : (k b : ℕ) (n m : Option ℕ) → of_both Subtract (between k n m) (Some b) ≡ between (subtract k b) n m
difference_minus k b None m = refl
difference_minus k b (Some x) None = refl
difference_minus k b (Some x) (Some y) = ap Some (sym (add_subtract (subtract x y) k b))

symbols_minus : (k j : ℕ) (n m : Option ℕ) → j < 2 ^ 64 → IfSome m (λ x. x < 2 ^ 64)
    → of_both Subtract (option_map (λ x. add x k) n) (option_map (λ x. add x j) m) ≡ between (subtract k j) n m
symbols_minus k j None m small within = refl
symbols_minus k j (Some x) None small within = refl
symbols_minus k j (Some x) (Some y) small within = ap Some (sym (add_subtract_both x y k j within small))

-- two places of one section
places_minus : (begin o u k j : ℕ) → u < 2 ^ 64 → j < 2 ^ 64
    → subtract (add (add begin o) k) (add (add begin u) j) ≡ add (subtract k j) (subtract o u)
places_minus begin o u k j within small =
    sym (add_subtract_both (add begin o) (add begin u) k j (add_below begin u) small)
    ∙ add_comm (subtract (add begin o) (add begin u)) (subtract k j)
    ∙ ap (add (subtract k j)) (subtract_base begin o u within)

-- ---- operators

module _ (base : ℕ → ℕ) (a : Primary → Option ℕ) where
  one_section : (b : Bool) (i l o u k j : ℕ) (p q : Primary) → (b ≡ true → i ≡ l) → o < 2 ^ 64 → u < 2 ^ 64 → j < 2 ^ 64
      → a p ≡ Some (add (base i) o) → a q ≡ Some (add (base l) u)
      → Standing base a (if b then Constant (add (subtract k j) (subtract o u)) else Difference p q (subtract k j))
      (of_both Subtract (option_map (λ x. add x k) (a p)) (option_map (λ x. add x j) (a q)))
  one_section true i l o u k j p q same os us js pis qis =
      rw (pis, qis, sym (same refl)) (ap Some (places_minus (base i) o u k j us js))
  one_section false i l o u k j p q same os us js pis qis =
      symbols_minus k j (a p) (a q) js (rw qis (add_below (base l) u))

  apart_stands : (s t : Meaning) (p q : Primary) (k j : ℕ) → j < 2 ^ 64 → IsPlaced base s (a p) → IsPlaced base t (a q)
      → Standing base a (apart s t p q (subtract k j))
      (of_both Subtract (option_map (λ x. add x k) (a p)) (option_map (λ x. add x j) (a q)))
  apart_stands (Known n) t p q k j js ps qs = absurd ps
  apart_stands (Refused c) t p q k j js ps qs = absurd ps
  apart_stands (InSection i o) (InSection l u) p q k j js ps qs = one_section (i == l) i l o u k j p q (eqb-true i l) ps.0 qs.0 js ps.1 qs.1
  apart_stands (InSection i o) (Known n) p q k j js ps qs = absurd qs
  apart_stands (InSection i o) (Refused c) p q k j js ps qs = absurd qs
  apart_stands (InSection i o) Open p q k j js ps qs = symbols_minus k j (a p) (a q) js qs
  apart_stands Open t p q k j js ps qs = symbols_minus k j (a p) (a q) js (placed_small base t (a q) qs)

  sum_stands : (v w : Value) (r s : Option ℕ) → Standing base a v r → Standing base a w s → Standing base a (sum v w) (of_both Add r s)
  sum_stands (Constant c) (Constant d) r s vs ws = rw (vs, ws) refl
  sum_stands (Constant c) (Symbolic p at k) r s vs ws = (add_below k c, ws.1, rw (vs, ws.2) (plus_symbol k c (a p)))
  sum_stands (Constant c) (Difference p q k) r s vs ws = rw (vs, ws) (plus_difference k c (a p) (a q))
  sum_stands (Symbolic p at k) (Constant d) r s vs ws = (add_below k d, vs.1, rw (vs.2, ws) (symbol_plus k d (a p)))
  sum_stands (Difference p q k) (Constant d) r s vs ws = rw (vs, ws) (difference_plus k d (a p) (a q))
  sum_stands (Constant c) (Faulty d) r s vs ws = tt
  sum_stands (Symbolic p at k) (Symbolic q bt j) r s vs ws = tt
  sum_stands (Symbolic p at k) (Difference q n j) r s vs ws = tt
  sum_stands (Symbolic p at k) (Faulty d) r s vs ws = tt
  sum_stands (Difference p q k) (Symbolic n at j) r s vs ws = tt
  sum_stands (Difference p q k) (Difference n m j) r s vs ws = tt
  sum_stands (Difference p q k) (Faulty d) r s vs ws = tt
  sum_stands (Faulty c) (Constant d) r s vs ws = tt
  sum_stands (Faulty c) (Symbolic p at k) r s vs ws = tt
  sum_stands (Faulty c) (Difference p q k) r s vs ws = tt
  sum_stands (Faulty c) (Faulty d) r s vs ws = tt

  difference_stands : (v w : Value) (r s : Option ℕ) → Standing base a v r → Standing base a w s → Standing base a (difference v w) (of_both Subtract r s)
  difference_stands (Constant c) (Constant d) r s vs ws = rw (vs, ws) refl
  difference_stands (Symbolic p at k) (Constant d) r s vs ws = (subtract_below k d, vs.1, rw (vs.2, ws) (symbol_minus k d (a p)))
  difference_stands (Difference p q k) (Constant d) r s vs ws = rw (vs, ws) (difference_minus k d (a p) (a q))
  difference_stands (Symbolic p at k) (Symbolic q bt j) r s vs ws = rw (vs.2, ws.2) (apart_stands at bt p q k j ws.0 vs.1 ws.1)
  difference_stands (Constant c) (Symbolic p at k) r s vs ws = tt
  difference_stands (Constant c) (Difference p q k) r s vs ws = tt
  difference_stands (Constant c) (Faulty d) r s vs ws = tt
  difference_stands (Symbolic p at k) (Difference q n j) r s vs ws = tt
  difference_stands (Symbolic p at k) (Faulty d) r s vs ws = tt
  difference_stands (Difference p q k) (Symbolic n at j) r s vs ws = tt
  difference_stands (Difference p q k) (Difference n m j) r s vs ws = tt
  difference_stands (Difference p q k) (Faulty d) r s vs ws = tt
  difference_stands (Faulty c) (Constant d) r s vs ws = tt
  difference_stands (Faulty c) (Symbolic p at k) r s vs ws = tt
  difference_stands (Faulty c) (Difference p q k) r s vs ws = tt
  difference_stands (Faulty c) (Faulty d) r s vs ws = tt

  where_true : (b : Bool) (n code : ℕ) → Standing base a (if b then Constant n else Faulty code) (if b then Some n else None)
  where_true true n code = refl
  where_true false n code = tt

  where_false : (b : Bool) (n code : ℕ) → Standing base a (if b then Faulty code else Constant n) (if b then None else Some n)
  where_false true n code = tt
  where_false false n code = refl

  arithmetic_stands : (o : BinaryOperator) (c d : ℕ) → Standing base a (arithmetic o c d) (of_two o c d)
  arithmetic_stands Multiply c d = refl
  arithmetic_stands Divide c d = where_false (d == 0) _ _
  arithmetic_stands Remainder c d = where_false (d == 0) _ _
  arithmetic_stands ShiftLeft c d = where_true _ _ _
  arithmetic_stands ShiftRight c d = where_true _ _ _
  arithmetic_stands Or c d = refl
  arithmetic_stands And c d = refl
  arithmetic_stands ExclusiveOr c d = refl
  arithmetic_stands Add c d = refl
  arithmetic_stands Subtract c d = refl

  constants_stand : (o : BinaryOperator) (v w : Value) (r s : Option ℕ) → Standing base a v r → Standing base a w s → Standing base a (constants_alone o v w) (of_both o r s)
  constants_stand o (Constant c) (Constant d) r s vs ws = rw (vs, ws) (arithmetic_stands o c d)
  constants_stand o (Constant c) (Symbolic p at k) r s vs ws = tt
  constants_stand o (Constant c) (Difference p q k) r s vs ws = tt
  constants_stand o (Constant c) (Faulty d) r s vs ws = tt
  constants_stand o (Symbolic p at k) (Constant d) r s vs ws = tt
  constants_stand o (Symbolic p at k) (Symbolic q bt j) r s vs ws = tt
  constants_stand o (Symbolic p at k) (Difference q n j) r s vs ws = tt
  constants_stand o (Symbolic p at k) (Faulty d) r s vs ws = tt
  constants_stand o (Difference p q k) (Constant d) r s vs ws = tt
  constants_stand o (Difference p q k) (Symbolic n at j) r s vs ws = tt
  constants_stand o (Difference p q k) (Difference n m j) r s vs ws = tt
  constants_stand o (Difference p q k) (Faulty d) r s vs ws = tt
  constants_stand o (Faulty c) (Constant d) r s vs ws = tt
  constants_stand o (Faulty c) (Symbolic p at k) r s vs ws = tt
  constants_stand o (Faulty c) (Difference p q k) r s vs ws = tt
  constants_stand o (Faulty c) (Faulty d) r s vs ws = tt

  pub both_stand : (o : BinaryOperator) (v w : Value) (r s : Option ℕ) → Standing base a v r → Standing base a w s → Standing base a (both o v w) (of_both o r s)
  both_stand Add v w r s vs ws = sum_stands v w r s vs ws
  both_stand Subtract v w r s vs ws = difference_stands v w r s vs ws
  both_stand Multiply v w r s vs ws = constants_stand Multiply v w r s vs ws
  both_stand Divide v w r s vs ws = constants_stand Divide v w r s vs ws
  both_stand Remainder v w r s vs ws = constants_stand Remainder v w r s vs ws
  both_stand ShiftLeft v w r s vs ws = constants_stand ShiftLeft v w r s vs ws
  both_stand ShiftRight v w r s vs ws = constants_stand ShiftRight v w r s vs ws
  both_stand Or v w r s vs ws = constants_stand Or v w r s vs ws
  both_stand And v w r s vs ws = constants_stand And v w r s vs ws
  both_stand ExclusiveOr v w r s vs ws = constants_stand ExclusiveOr v w r s vs ws

  pub unary_stands : (o : UnaryOperator) (v : Value) (r : Option ℕ) → Standing base a v r → Standing base a (unary_value o v) (option_map (of_one o) r)
  unary_stands Keep v r st = subst (λ (n : Option ℕ). Standing base a v n) (kept r) st
  unary_stands Negate (Constant c) r st = rw st (ap Some (negated c))
  unary_stands Negate (Symbolic p at k) r st = tt
  unary_stands Negate (Difference p q k) r st = tt
  unary_stands Negate (Faulty c) r st = tt
  unary_stands Complement (Constant c) r st = rw st refl
  unary_stands Complement (Symbolic p at k) r st = tt
  unary_stands Complement (Difference p q k) r st = tt
  unary_stands Complement (Faulty c) r st = tt

-- the number of a name where it stands alone
abbrev pub IsGiven : (ℕ → ℕ) → Meaning → Option ℕ → Option ℕ → Type 0
IsGiven base (Known n) address number = number ≡ Some n
IsGiven base (InSection section offset) address number =
    (offset < 2 ^ 64) × (address ≡ Some (add (base section) offset)) × (number ≡ address)
IsGiven base Open address number = IfSome address (λ x. x < 2 ^ 64) × (number ≡ address)
IsGiven base (Refused code) address number = Unit {0}

pub name_stands : (base : ℕ → ℕ) (a : Primary → Option ℕ) (p : Primary) (at : Meaning) (n : Option ℕ) → IsGiven base at (a p) n → Standing base a (meant p at) n
name_stands base a p (Known k) n given = given
name_stands base a p (InSection s o) n given =
    (omega arith, (given.0, given.1), given.2 ∙ whole (a p) (rw given.1 (add_below (base s) o)))
name_stands base a p Open n given = (omega arith, given.0, given.1 ∙ whole (a p) given.0)
name_stands base a p (Refused code) n given = tt
