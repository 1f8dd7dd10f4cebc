-- The symbols of a value are names of its expression that mean a place.

use Rattle.std.proofs.Common.{◌≡◌, ℕ, Bool, true, false, ◌==◌, nat_lt}
use Rattle.std.specs.Prelude.{⊤, if◌then◌else◌}
use Rattle.rv_expression_laws.specs.declared.operator.UnaryOperator.{UnaryOperator}
use Rattle.rv_expression_laws.specs.declared.operator.UnaryOperator.TheVariants.{Negate, Complement, Keep}
use Rattle.rv_expression_laws.specs.declared.operator.BinaryOperator.{BinaryOperator}
use Rattle.rv_expression_laws.specs.declared.operator.BinaryOperator.TheVariants.{Multiply, Divide, Remainder, ShiftLeft, ShiftRight, Or, And, ExclusiveOr, Add, Subtract}
use Rattle.rv_expression_laws.specs.Expression.{Primary, Literal, Symbol, Here, Reference, Tree, Leaf, Unary, Paren, Binary}
use Rattle.rv_expression_laws.specs.Values.{Meaning, Known, InSection, Open, Refused, Value, Constant, Symbolic, Difference, Faulty, arithmetic, refused, apart, sum, difference, constants_alone, both, unary_value, meant, primary_value, value_of}

-- the symbols of a value pass a test
abbrev pub Pass : (Primary → Bool) → Value → Type 0
Pass q (Symbolic p at k) = q p ≡ true
Pass q (Difference p r k) = (q p ≡ true) × (q r ≡ true)
Pass q _ = ⊤

-- a place, and not a number or a fault
abbrev pub IsPlace : Meaning → Type 0
IsPlace (Known n) = ⊥
IsPlace (Refused code) = ⊥
IsPlace _ = ⊤

-- the leaves of an expression that mean places pass
abbrev pub LeavesPass : (Primary → Meaning) → (Primary → Bool) → Tree → Type 0
LeavesPass m q (Leaf p) = IsPlace (m p) → q p ≡ true
LeavesPass m q (Unary o x) = LeavesPass m q x
LeavesPass m q (Paren x) = LeavesPass m q x
LeavesPass m q (Binary o x y) = LeavesPass m q x × LeavesPass m q y

module _ (m : Primary → Meaning) (q : Primary → Bool) where
  either : (b : Bool) (v w : Value) → Pass q v → Pass q w → Pass q (if b then v else w)
  either true v w h k = h
  either false v w h k = k

  by_arithmetic : (o : BinaryOperator) (a b : ℕ) → Pass q (arithmetic o a b)
  by_arithmetic Multiply a b = tt
  by_arithmetic Divide a b = either (b == 0) (Faulty 4) _ tt tt
  by_arithmetic Remainder a b = either (b == 0) (Faulty 4) _ tt tt
  by_arithmetic ShiftLeft a b = either (nat_lt b 64) _ (Faulty 5) tt tt
  by_arithmetic ShiftRight a b = either (nat_lt b 64) _ (Faulty 5) tt tt
  by_arithmetic Or a b = tt
  by_arithmetic And a b = tt
  by_arithmetic ExclusiveOr a b = tt
  by_arithmetic Add a b = tt
  by_arithmetic Subtract a b = tt

  by_refused : (o : BinaryOperator) (v w : Value) → Pass q (refused o v w)
  by_refused o (Faulty c) (Faulty d) = tt
  by_refused o (Faulty c) (Constant b) = tt
  by_refused o (Faulty c) (Symbolic p at k) = tt
  by_refused o (Faulty c) (Difference p r k) = tt
  by_refused o (Constant a) (Faulty d) = tt
  by_refused o (Constant a) (Constant b) = tt
  by_refused o (Constant a) (Symbolic p at k) = tt
  by_refused o (Constant a) (Difference p r k) = tt
  by_refused o (Symbolic p at k) (Faulty d) = tt
  by_refused o (Symbolic p at k) (Constant b) = tt
  by_refused o (Symbolic p at k) (Symbolic r bt j) = tt
  by_refused o (Symbolic p at k) (Difference r s j) = tt
  by_refused o (Difference p r k) (Faulty d) = tt
  by_refused o (Difference p r k) (Constant b) = tt
  by_refused o (Difference p r k) (Symbolic s bt j) = tt
  by_refused o (Difference p r k) (Difference s u j) = tt

  by_apart : (s t : Meaning) (p r : Primary) (k : ℕ) → q p ≡ true → q r ≡ true → Pass q (apart s t p r k)
  by_apart (InSection s a) (InSection t b) p r k h l = either (s == t) (Constant _) (Difference p r k) tt (h, l)
  by_apart (InSection s a) (Known n) p r k h l = (h, l)
  by_apart (InSection s a) Open p r k h l = (h, l)
  by_apart (InSection s a) (Refused c) p r k h l = (h, l)
  by_apart (Known n) t p r k h l = (h, l)
  by_apart Open t p r k h l = (h, l)
  by_apart (Refused c) t p r k h l = (h, l)

  by_sum : (v w : Value) → Pass q v → Pass q w → Pass q (sum v w)
  by_sum (Constant a) (Constant b) h k = tt
  by_sum (Constant a) (Symbolic p at n) h k = k
  by_sum (Constant a) (Difference p r n) h k = k
  by_sum (Constant a) (Faulty c) h k = tt
  by_sum (Symbolic p at n) (Constant b) h k = h
  by_sum (Symbolic p at n) (Symbolic r bt j) h k = tt
  by_sum (Symbolic p at n) (Difference r s j) h k = tt
  by_sum (Symbolic p at n) (Faulty c) h k = tt
  by_sum (Difference p r n) (Constant b) h k = h
  by_sum (Difference p r n) (Symbolic s bt j) h k = tt
  by_sum (Difference p r n) (Difference s u j) h k = tt
  by_sum (Difference p r n) (Faulty c) h k = tt
  by_sum (Faulty c) w h k = by_refused Add (Faulty c) w

  by_difference : (v w : Value) → Pass q v → Pass q w → Pass q (difference v w)
  by_difference (Constant a) (Constant b) h k = tt
  by_difference (Constant a) (Symbolic p at n) h k = tt
  by_difference (Constant a) (Difference p r n) h k = tt
  by_difference (Constant a) (Faulty c) h k = tt
  by_difference (Symbolic p at n) (Constant b) h k = h
  by_difference (Symbolic p at n) (Symbolic r bt j) h k = by_apart at bt p r _ h k
  by_difference (Symbolic p at n) (Difference r s j) h k = tt
  by_difference (Symbolic p at n) (Faulty c) h k = tt
  by_difference (Difference p r n) (Constant b) h k = h
  by_difference (Difference p r n) (Symbolic s bt j) h k = tt
  by_difference (Difference p r n) (Difference s u j) h k = tt
  by_difference (Difference p r n) (Faulty c) h k = tt
  by_difference (Faulty c) w h k = by_refused Subtract (Faulty c) w

  by_constants : (o : BinaryOperator) (v w : Value) → Pass q (constants_alone o v w)
  by_constants o (Constant a) (Constant b) = by_arithmetic o a b
  by_constants o (Constant a) (Symbolic p at k) = tt
  by_constants o (Constant a) (Difference p r k) = tt
  by_constants o (Constant a) (Faulty c) = tt
  by_constants o (Symbolic p at k) w = by_refused o (Symbolic p at k) w
  by_constants o (Difference p r k) w = by_refused o (Difference p r k) w
  by_constants o (Faulty c) w = by_refused o (Faulty c) w

  by_both : (o : BinaryOperator) (v w : Value) → Pass q v → Pass q w → Pass q (both o v w)
  by_both Add v w h k = by_sum v w h k
  by_both Subtract v w h k = by_difference v w h k
  by_both Multiply v w h k = by_constants Multiply v w
  by_both Divide v w h k = by_constants Divide v w
  by_both Remainder v w h k = by_constants Remainder v w
  by_both ShiftLeft v w h k = by_constants ShiftLeft v w
  by_both ShiftRight v w h k = by_constants ShiftRight v w
  by_both Or v w h k = by_constants Or v w
  by_both And v w h k = by_constants And v w
  by_both ExclusiveOr v w h k = by_constants ExclusiveOr v w

  by_alone : (o : UnaryOperator) (v : Value) → Pass q v → Pass q (unary_value o v)
  by_alone Keep v h = h
  by_alone Negate (Constant a) h = tt
  by_alone Negate (Symbolic p at k) h = tt
  by_alone Negate (Difference p r k) h = tt
  by_alone Negate (Faulty c) h = tt
  by_alone Complement (Constant a) h = tt
  by_alone Complement (Symbolic p at k) h = tt
  by_alone Complement (Difference p r k) h = tt
  by_alone Complement (Faulty c) h = tt

  by_meaning : (p : Primary) (at : Meaning) → (IsPlace at → q p ≡ true) → Pass q (meant p at)
  by_meaning p (Known n) h = tt
  by_meaning p (Refused c) h = tt
  by_meaning p (InSection s a) h = h tt
  by_meaning p Open h = h tt

  by_primary : (p : Primary) → (IsPlace (m p) → q p ≡ true) → Pass q (primary_value m p)
  by_primary (Literal n) h = tt
  by_primary (Symbol name) h = by_meaning (Symbol name) (m (Symbol name)) h
  by_primary Here h = by_meaning Here (m Here) h
  by_primary (Reference d f) h = by_meaning (Reference d f) (m (Reference d f)) h

  pub by_value : (e : Tree) → LeavesPass m q e → Pass q (value_of m e)
  by_value (Leaf p) h = by_primary p h
  by_value (Unary o x) h = by_alone o (value_of m x) (by_value x h)
  by_value (Paren x) h = by_value x h
  by_value (Binary o x y) (h, k) = by_both o (value_of m x) (value_of m y) (by_value x h) (by_value y k)
