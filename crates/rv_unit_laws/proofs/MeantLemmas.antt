-- A symbol in a value has the meaning that it has where it stands.

use Rattle.std.proofs.Common.{◌≡◌, ℕ, Bool, true, false, ◌==◌, nat_lt, refl}
use Rattle.std.specs.Prelude.{if◌then◌else◌}
use Rattle.rv_expression_laws.specs.declared.operator.UnaryOperator.{UnaryOperator}
use Rattle.rv_expression_laws.specs.declared.operator.UnaryOperator.TheVariants.{Negate, Complement, Keep}
use Rattle.rv_expression_laws.specs.declared.operator.BinaryOperator.{BinaryOperator}
use Rattle.rv_expression_laws.specs.declared.operator.BinaryOperator.TheVariants.{Multiply, Divide, Remainder, ShiftLeft, ShiftRight, Or, And, ExclusiveOr, Add, Subtract}
use Rattle.rv_expression_laws.specs.Expression.{Primary, Literal, Symbol, Here, Reference, Tree, Leaf, Unary, Paren, Binary}
use Rattle.rv_expression_laws.specs.Values.{Meaning, Known, InSection, Open, Refused, Value, Constant, Symbolic, Difference, Faulty, arithmetic, refused, apart, sum, difference, constants_alone, both, unary_value, meant, primary_value, value_of}

abbrev pub HasMeaning : (Primary → Meaning) → Value → Type 0
HasMeaning m (Symbolic p at k) = at ≡ m p
HasMeaning m _ = Unit {0}

module _ (m : Primary → Meaning) where
  if_meant : (b : Bool) (v w : Value) → HasMeaning m v → HasMeaning m w → HasMeaning m (if b then v else w)
  if_meant true v w hv hw = hv
  if_meant false v w hv hw = hw

  arithmetic_meant : (o : BinaryOperator) (a b : ℕ) → HasMeaning m (arithmetic o a b)
  arithmetic_meant Multiply a b = tt
  arithmetic_meant Divide a b = if_meant (b == 0) (Faulty 4) _ tt tt
  arithmetic_meant Remainder a b = if_meant (b == 0) (Faulty 4) _ tt tt
  arithmetic_meant ShiftLeft a b = if_meant (nat_lt b 64) _ (Faulty 5) tt tt
  arithmetic_meant ShiftRight a b = if_meant (nat_lt b 64) _ (Faulty 5) tt tt
  arithmetic_meant Or a b = tt
  arithmetic_meant And a b = tt
  arithmetic_meant ExclusiveOr a b = tt
  arithmetic_meant Add a b = tt
  arithmetic_meant Subtract a b = tt

  refused_meant : (o : BinaryOperator) (v w : Value) → HasMeaning m (refused o v w)
  refused_meant o (Faulty c) (Faulty d) = tt
  refused_meant o (Faulty c) (Constant b) = tt
  refused_meant o (Faulty c) (Symbolic p at k) = tt
  refused_meant o (Faulty c) (Difference p q k) = tt
  refused_meant o (Constant a) (Faulty d) = tt
  refused_meant o (Constant a) (Constant b) = tt
  refused_meant o (Constant a) (Symbolic p at k) = tt
  refused_meant o (Constant a) (Difference p q k) = tt
  refused_meant o (Symbolic p at k) (Faulty d) = tt
  refused_meant o (Symbolic p at k) (Constant b) = tt
  refused_meant o (Symbolic p at k) (Symbolic q bt j) = tt
  refused_meant o (Symbolic p at k) (Difference q r j) = tt
  refused_meant o (Difference p q k) (Faulty d) = tt
  refused_meant o (Difference p q k) (Constant b) = tt
  refused_meant o (Difference p q k) (Symbolic r bt j) = tt
  refused_meant o (Difference p q k) (Difference r s j) = tt

  apart_meant : (s t : Meaning) (p q : Primary) (k : ℕ) → HasMeaning m (apart s t p q k)
  apart_meant (InSection s a) (InSection t b) p q k = if_meant (s == t) (Constant _) (Difference p q k) tt tt
  apart_meant (InSection s a) (Known n) p q k = tt
  apart_meant (InSection s a) Open p q k = tt
  apart_meant (InSection s a) (Refused c) p q k = tt
  apart_meant (Known n) t p q k = tt
  apart_meant Open t p q k = tt
  apart_meant (Refused c) t p q k = tt

  sum_meant : (v w : Value) → HasMeaning m v → HasMeaning m w → HasMeaning m (sum v w)
  sum_meant (Constant a) (Constant b) hv hw = tt
  sum_meant (Constant a) (Symbolic p at k) hv hw = hw
  sum_meant (Constant a) (Difference p q k) hv hw = tt
  sum_meant (Constant a) (Faulty c) hv hw = tt
  sum_meant (Symbolic p at k) (Constant b) hv hw = hv
  sum_meant (Symbolic p at k) (Symbolic q bt j) hv hw = tt
  sum_meant (Symbolic p at k) (Difference q r j) hv hw = tt
  sum_meant (Symbolic p at k) (Faulty c) hv hw = tt
  sum_meant (Difference p q k) (Constant b) hv hw = tt
  sum_meant (Difference p q k) (Symbolic r bt j) hv hw = tt
  sum_meant (Difference p q k) (Difference r s j) hv hw = tt
  sum_meant (Difference p q k) (Faulty c) hv hw = tt
  sum_meant (Faulty c) w hv hw = refused_meant Add (Faulty c) w

  difference_meant : (v w : Value) → HasMeaning m v → HasMeaning m w → HasMeaning m (difference v w)
  difference_meant (Constant a) (Constant b) hv hw = tt
  difference_meant (Constant a) (Symbolic p at k) hv hw = tt
  difference_meant (Constant a) (Difference p q k) hv hw = tt
  difference_meant (Constant a) (Faulty c) hv hw = tt
  difference_meant (Symbolic p at k) (Constant b) hv hw = hv
  difference_meant (Symbolic p at k) (Symbolic q bt j) hv hw = apart_meant at bt p q _
  difference_meant (Symbolic p at k) (Difference q r j) hv hw = tt
  difference_meant (Symbolic p at k) (Faulty c) hv hw = tt
  difference_meant (Difference p q k) (Constant b) hv hw = tt
  difference_meant (Difference p q k) (Symbolic r bt j) hv hw = tt
  difference_meant (Difference p q k) (Difference r s j) hv hw = tt
  difference_meant (Difference p q k) (Faulty c) hv hw = tt
  difference_meant (Faulty c) w hv hw = refused_meant Subtract (Faulty c) w

  constants_meant : (o : BinaryOperator) (v w : Value) → HasMeaning m (constants_alone o v w)
  constants_meant o (Constant a) (Constant b) = arithmetic_meant o a b
  constants_meant o (Constant a) (Symbolic p at k) = tt
  constants_meant o (Constant a) (Difference p q k) = tt
  constants_meant o (Constant a) (Faulty c) = tt
  constants_meant o (Symbolic p at k) w = refused_meant o (Symbolic p at k) w
  constants_meant o (Difference p q k) w = refused_meant o (Difference p q k) w
  constants_meant o (Faulty c) w = refused_meant o (Faulty c) w

  both_meant : (o : BinaryOperator) (v w : Value) → HasMeaning m v → HasMeaning m w → HasMeaning m (both o v w)
  both_meant Add v w hv hw = sum_meant v w hv hw
  both_meant Subtract v w hv hw = difference_meant v w hv hw
  both_meant Multiply v w hv hw = constants_meant Multiply v w
  both_meant Divide v w hv hw = constants_meant Divide v w
  both_meant Remainder v w hv hw = constants_meant Remainder v w
  both_meant ShiftLeft v w hv hw = constants_meant ShiftLeft v w
  both_meant ShiftRight v w hv hw = constants_meant ShiftRight v w
  both_meant Or v w hv hw = constants_meant Or v w
  both_meant And v w hv hw = constants_meant And v w
  both_meant ExclusiveOr v w hv hw = constants_meant ExclusiveOr v w

  alone_meant : (o : UnaryOperator) (v : Value) → HasMeaning m v → HasMeaning m (unary_value o v)
  alone_meant Keep v hv = hv
  alone_meant Negate (Constant a) hv = tt
  alone_meant Negate (Symbolic p at k) hv = tt
  alone_meant Negate (Difference p q k) hv = tt
  alone_meant Negate (Faulty c) hv = tt
  alone_meant Complement (Constant a) hv = tt
  alone_meant Complement (Symbolic p at k) hv = tt
  alone_meant Complement (Difference p q k) hv = tt
  alone_meant Complement (Faulty c) hv = tt

  meant_meant : (p : Primary) (at : Meaning) → at ≡ m p → HasMeaning m (meant p at)
  meant_meant p (Known n) h = tt
  meant_meant p (Refused c) h = tt
  meant_meant p (InSection s a) h = h
  meant_meant p Open h = h

  primary_meant : (p : Primary) → HasMeaning m (primary_value m p)
  primary_meant (Literal n) = tt
  primary_meant (Symbol name) = meant_meant (Symbol name) (m (Symbol name)) refl
  primary_meant Here = meant_meant Here (m Here) refl
  primary_meant (Reference d f) = meant_meant (Reference d f) (m (Reference d f)) refl

  pub value_meant : (e : Tree) → HasMeaning m (value_of m e)
  value_meant (Leaf p) = primary_meant p
  value_meant (Unary o x) = alone_meant o (value_of m x) (value_meant x)
  value_meant (Paren x) = value_meant x
  value_meant (Binary o x y) = both_meant o (value_of m x) (value_of m y) (value_meant x) (value_meant y)
