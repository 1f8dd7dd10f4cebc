-- A constant stays the same constant where its names that have no meaning get one.

use Rattle.std.proofs.Common.{◌≡◌, ℕ, Bool, true, false, nat_lt, refl, sym, ap, ◌∙◌, Option, Some, None}
use Rattle.std.specs.Prelude.{List, if◌then◌else◌}
use Rattle.rv_expression_laws.specs.Bytes.{digits_value}
use Rattle.rv_expression_laws.specs.declared.operator.UnaryOperator.{UnaryOperator}
use Rattle.rv_expression_laws.specs.declared.operator.UnaryOperator.TheVariants.{Negate, Complement, Keep}
use Rattle.rv_expression_laws.specs.declared.operator.BinaryOperator.{BinaryOperator}
use Rattle.rv_expression_laws.specs.declared.operator.BinaryOperator.TheVariants.{Multiply, Divide, Remainder, ShiftLeft, ShiftRight, Or, And, ExclusiveOr, Add, Subtract}
use Rattle.rv_expression_laws.specs.Expression.{Primary, Literal, Symbol, Here, Reference, Tree, Leaf, Unary, Paren, Binary}
use Rattle.rv_expression_laws.specs.Values.{Meaning, Known, InSection, Open, Refused, Value, Constant, Symbolic, Difference, Faulty, refused, apart, sum, difference, constants_alone, both, unary_value, meant, primary_value, value_of}
use Rattle.rv_statement_laws.specs.Statement.{Expression}
use Rattle.rv_statement_laws.specs.declared.directive.Binding.{Binding}
use Rattle.rv_unit_laws.specs.Tables.{Tables, SectionOffset, Labelled, NumericLabel, Assignment, label_of, assigned_before, assigned_ever, assigned_later, assigned_first, labelled, weakened, own_named, numeric_label_after, forward_in, meaning, value_by_tables, opened_of}
use Rattle.rv_unit_laws.proofs.BeforeLemmas.{IsBefore, label_below, below}

-- ---- values

-- a number or a location
abbrev pub is_settled : Meaning → Bool
is_settled (Known n) = true
is_settled (InSection section offset) = true
is_settled Open = false
is_settled (Refused code) = false

-- a constant, or a symbol with a location: no other value is ever part of a constant
abbrev pub is_fixed : Value → Bool
is_fixed (Constant n) = true
is_fixed (Symbolic p at plus) = is_settled at
is_fixed (Difference p q plus) = false
is_fixed (Faulty code) = false

abbrev AreFixed : Value → Value → Type 0
AreFixed v w = (is_fixed v ≡ true) × (is_fixed w ≡ true)

refused_loose : (o : BinaryOperator) (v w : Value) → is_fixed (refused o v w) ≡ false
refused_loose o (Faulty c) (Faulty d) = refl
refused_loose o (Faulty c) (Constant b) = refl
refused_loose o (Faulty c) (Symbolic p at k) = refl
refused_loose o (Faulty c) (Difference p q k) = refl
refused_loose o (Constant a) (Faulty d) = refl
refused_loose o (Constant a) (Constant b) = refl
refused_loose o (Constant a) (Symbolic p at k) = refl
refused_loose o (Constant a) (Difference p q k) = refl
refused_loose o (Symbolic p at k) (Faulty d) = refl
refused_loose o (Symbolic p at k) (Constant b) = refl
refused_loose o (Symbolic p at k) (Symbolic q bt j) = refl
refused_loose o (Symbolic p at k) (Difference q r j) = refl
refused_loose o (Difference p q k) (Faulty d) = refl
refused_loose o (Difference p q k) (Constant b) = refl
refused_loose o (Difference p q k) (Symbolic r bt j) = refl
refused_loose o (Difference p q k) (Difference r s j) = refl

not_refused : (o : BinaryOperator) (v w : Value) → is_fixed (refused o v w) ≡ true → AreFixed v w
not_refused o v w e = let f = refused_loose o v w in absurd (cc)

apart_fixed : (s t : Meaning) (p q : Primary) (k : ℕ) → is_fixed (apart s t p q k) ≡ true → (is_settled s ≡ true) × (is_settled t ≡ true)
apart_fixed (InSection s a) (InSection t b) p q k e = (refl, refl)
apart_fixed (InSection s a) (Known n) p q k e = absurd (cc)
apart_fixed (InSection s a) Open p q k e = absurd (cc)
apart_fixed (InSection s a) (Refused c) p q k e = absurd (cc)
apart_fixed (Known n) t p q k e = absurd (cc)
apart_fixed Open t p q k e = absurd (cc)
apart_fixed (Refused c) t p q k e = absurd (cc)

sum_fixed : (v w : Value) → is_fixed (sum v w) ≡ true → AreFixed v w
sum_fixed (Constant a) (Constant b) e = (refl, refl)
sum_fixed (Constant a) (Symbolic p at k) e = (refl, e)
sum_fixed (Constant a) (Difference p q k) e = absurd (cc)
sum_fixed (Constant a) (Faulty c) e = absurd (cc)
sum_fixed (Symbolic p at k) (Constant b) e = (e, refl)
sum_fixed (Symbolic p at k) (Symbolic q bt j) e = absurd (cc)
sum_fixed (Symbolic p at k) (Difference q r j) e = absurd (cc)
sum_fixed (Symbolic p at k) (Faulty c) e = absurd (cc)
sum_fixed (Difference p q k) (Constant b) e = absurd (cc)
sum_fixed (Difference p q k) (Symbolic r bt j) e = absurd (cc)
sum_fixed (Difference p q k) (Difference r s j) e = absurd (cc)
sum_fixed (Difference p q k) (Faulty c) e = absurd (cc)
sum_fixed (Faulty c) w e = not_refused Add (Faulty c) w e

difference_fixed : (v w : Value) → is_fixed (difference v w) ≡ true → AreFixed v w
difference_fixed (Constant a) (Constant b) e = (refl, refl)
difference_fixed (Constant a) (Symbolic p at k) e = absurd (cc)
difference_fixed (Constant a) (Difference p q k) e = absurd (cc)
difference_fixed (Constant a) (Faulty c) e = absurd (cc)
difference_fixed (Symbolic p at k) (Constant b) e = (e, refl)
difference_fixed (Symbolic p at k) (Symbolic q bt j) e = apart_fixed at bt p q _ e
difference_fixed (Symbolic p at k) (Difference q r j) e = absurd (cc)
difference_fixed (Symbolic p at k) (Faulty c) e = absurd (cc)
difference_fixed (Difference p q k) (Constant b) e = absurd (cc)
difference_fixed (Difference p q k) (Symbolic r bt j) e = absurd (cc)
difference_fixed (Difference p q k) (Difference r s j) e = absurd (cc)
difference_fixed (Difference p q k) (Faulty c) e = absurd (cc)
difference_fixed (Faulty c) w e = not_refused Subtract (Faulty c) w e

constants_fixed : (o : BinaryOperator) (v w : Value) → is_fixed (constants_alone o v w) ≡ true → AreFixed v w
constants_fixed o (Constant a) (Constant b) e = (refl, refl)
constants_fixed o (Constant a) (Symbolic p at k) e = absurd (cc)
constants_fixed o (Constant a) (Difference p q k) e = absurd (cc)
constants_fixed o (Constant a) (Faulty c) e = absurd (cc)
constants_fixed o (Symbolic p at k) w e = not_refused o (Symbolic p at k) w e
constants_fixed o (Difference p q k) w e = not_refused o (Difference p q k) w e
constants_fixed o (Faulty c) w e = not_refused o (Faulty c) w e

both_fixed : (o : BinaryOperator) (v w : Value) → is_fixed (both o v w) ≡ true → AreFixed v w
both_fixed Add v w e = sum_fixed v w e
both_fixed Subtract v w e = difference_fixed v w e
both_fixed Multiply v w e = constants_fixed Multiply v w e
both_fixed Divide v w e = constants_fixed Divide v w e
both_fixed Remainder v w e = constants_fixed Remainder v w e
both_fixed ShiftLeft v w e = constants_fixed ShiftLeft v w e
both_fixed ShiftRight v w e = constants_fixed ShiftRight v w e
both_fixed Or v w e = constants_fixed Or v w e
both_fixed And v w e = constants_fixed And v w e
both_fixed ExclusiveOr v w e = constants_fixed ExclusiveOr v w e

alone_fixed : (o : UnaryOperator) (v : Value) → is_fixed (unary_value o v) ≡ true → is_fixed v ≡ true
alone_fixed Keep v e = e
alone_fixed Negate (Constant a) e = refl
alone_fixed Negate (Symbolic p at k) e = absurd (cc)
alone_fixed Negate (Difference p q k) e = absurd (cc)
alone_fixed Negate (Faulty c) e = absurd (cc)
alone_fixed Complement (Constant a) e = refl
alone_fixed Complement (Symbolic p at k) e = absurd (cc)
alone_fixed Complement (Difference p q k) e = absurd (cc)
alone_fixed Complement (Faulty c) e = absurd (cc)

meant_fixed : (p : Primary) (at : Meaning) → is_fixed (meant p at) ≡ true → is_settled at ≡ true
meant_fixed p (Known n) e = refl
meant_fixed p (InSection s a) e = refl
meant_fixed p Open e = absurd (cc)
meant_fixed p (Refused c) e = absurd (cc)

-- the numbers and locations of the first are those of the second
abbrev pub Agree : (Primary → Meaning) → (Primary → Meaning) → Type 0
Agree m now = (p : Primary) → is_settled (m p) ≡ true → now p ≡ m p

module _ (m now : Primary → Meaning) (agree : Agree m now) where
  primary_same : (p : Primary) → is_fixed (primary_value m p) ≡ true → primary_value now p ≡ primary_value m p
  primary_same (Literal n) e = refl
  primary_same (Symbol name) e = ap (meant (Symbol name)) (agree (Symbol name) (meant_fixed (Symbol name) (m (Symbol name)) e))
  primary_same Here e = ap (meant Here) (agree Here (meant_fixed Here (m Here) e))
  primary_same (Reference d f) e = ap (meant (Reference d f)) (agree (Reference d f) (meant_fixed (Reference d f) (m (Reference d f)) e))

  pub value_same : (e : Tree) → is_fixed (value_of m e) ≡ true → value_of now e ≡ value_of m e
  value_same (Leaf p) f = primary_same p f
  value_same (Unary o x) f = ap (unary_value o) (value_same x (alone_fixed o (value_of m x) f))
  value_same (Paren x) f = value_same x f
  value_same (Binary o x y) f =
      let parts = both_fixed o (value_of m x) (value_of m y) f in
      ap (λ v. both o v (value_of now y)) (value_same x parts.0) ∙ ap (both o (value_of m x)) (value_same y parts.1)

  pub constant_same : (e : Tree) (n : ℕ) → value_of m e ≡ Constant n → value_of now e ≡ Constant n
  constant_same e n is = value_same e (ap is_fixed is) ∙ is

-- ---- a source's names

-- the label that stands before a statement is the one that counts for all
label_stays : (found ever : Option Labelled) (at : ℕ) → found ≡ below (λ (l : Labelled). l.ordinal) at ever → (l : Labelled) → found ≡ Some l → ever ≡ Some l
label_stays found None at is l e = absurd (cc)
label_stays found (Some k) at is l e = by (nat_lt k.ordinal at) (sym e ∙ is)
  where
    by : (b : Bool) → Some l ≡ (if b then Some k else None) → Some k ≡ Some l
    by true f = sym f
    by false f = absurd (cc)

-- a weak name has no place, before and later
weakened_later : (b : Binding) (m now : Meaning) → (is_settled m ≡ true → now ≡ m) → is_settled (weakened b m) ≡ true → weakened b now ≡ weakened b m
weakened_later b (Known n) now same e = ap (weakened b) (same refl)
weakened_later b (InSection section offset) now same e = ap (weakened b) (same refl)
weakened_later b Open now same e = absurd (cc)
weakened_later b (Refused code) now same e = absurd (cc)

module _ (t : Tables) (o at : ℕ) (before : IsBefore t o) where
  named_later : (name : List ℕ) (first : Option Assignment) (found : Option Labelled) → label_of t.labels false at name ≡ found
      → is_settled (assigned_first first (labelled (opened_of t) found Open)) ≡ true
      → assigned_first first (labelled (opened_of t) (label_of t.labels true at name) (assigned_later true (assigned_ever t.assignments name))) ≡ assigned_first first (labelled (opened_of t) found Open)
  named_later name (Some s) found is e = refl
  named_later name None None is e = absurd (cc)
  named_later name None (Some l) is e =
      ap (λ k. labelled (opened_of t) k (assigned_later true (assigned_ever t.assignments name)))
      (label_stays (label_of t.labels false at name) (label_of t.labels true 0 name) at (label_below t o at name before) l is)

  ahead_later : (found : Option NumericLabel) → is_settled (forward_in (opened_of t) false found) ≡ true → forward_in (opened_of t) true found ≡ forward_in (opened_of t) false found
  ahead_later None e = absurd (cc)
  ahead_later (Some m) e = absurd (cc)

  -- what has a number or a location where locations defined later do not count has the same where they do
  pub later_agrees : (p : SectionOffset) → Agree (λ q. meaning t false at p q) (λ q. meaning t true at p q)
  later_agrees p (Literal number) e = refl
  later_agrees p (Symbol name) e =
      weakened_later (t.bindings name) (own_named t false at name) (own_named t true at name)
      (named_later name (assigned_before t.assignments at name) (label_of t.labels false at name) refl) e
  later_agrees p Here e = refl
  later_agrees p (Reference digits true) e = ahead_later (numeric_label_after t.numeric_labels at (digits_value 10 digits)) e
  later_agrees p (Reference digits false) e = refl

  -- so a constant there is the same constant here
  pub constant_later : (p : SectionOffset) (e : Expression) (n : ℕ) → value_by_tables t false at p e ≡ Constant n → value_by_tables t true at p e ≡ Constant n
  constant_later p e n is = constant_same (λ q. meaning t false at p q) (λ q. meaning t true at p q) (later_agrees p) e n is
