-- The symbols of a value are names of its expression, each of another leaf.

use Rattle.std.proofs.Common.{ℕ, ◌+◌, ◌≤◌, Bool, true, false, ◌==◌, nat_lt, arith}
use Rattle.std.specs.Prelude.{if◌then◌else◌}
use Rattle.rv_expression_laws.specs.declared.operator.UnaryOperator.{UnaryOperator}
use Rattle.rv_expression_laws.specs.declared.operator.UnaryOperator.TheVariants.{Negate, Complement, Keep}
use Rattle.rv_expression_laws.specs.declared.operator.BinaryOperator.{BinaryOperator}
use Rattle.rv_expression_laws.specs.declared.operator.BinaryOperator.TheVariants.{Multiply, Divide, Remainder, ShiftLeft, ShiftRight, Or, And, ExclusiveOr, Add, Subtract}
use Rattle.rv_expression_laws.specs.Expression.{Primary, Literal, Symbol, Here, Reference, Tree, Leaf, Unary, Paren, Binary}
use Rattle.rv_expression_laws.specs.Values.{Meaning, Known, InSection, Open, Refused, Value, Constant, Symbolic, Difference, Faulty, arithmetic, refused, apart, sum, difference, constants_alone, both, unary_value, meant, primary_value, value_of}
use Rattle.rv_assemble_laws.specs.ShownNames.{primary_names, tree_names}
use Rattle.rv_assemble_laws.specs.Small.{weight}
use Rattle.rv_assemble_laws.proofs.WeightsLemmas.{weight_append}

abbrev pub symbol_heft : Primary → ℕ
symbol_heft p = weight (primary_names p)

abbrev pub value_heft : Value → ℕ
value_heft (Symbolic p at k) = symbol_heft p
value_heft (Difference p r k) = symbol_heft p + symbol_heft r
value_heft _ = 0

either : (b : Bool) (v w : Value) (n : ℕ) → value_heft v ≤ n → value_heft w ≤ n → value_heft (if b then v else w) ≤ n
either true v w n h k = h
either false v w n h k = k

by_arithmetic : (o : BinaryOperator) (a b n : ℕ) → value_heft (arithmetic o a b) ≤ n
by_arithmetic Multiply a b n = omega arith
by_arithmetic Divide a b n = either (b == 0) (Faulty 4) _ n (omega arith) (omega arith)
by_arithmetic Remainder a b n = either (b == 0) (Faulty 4) _ n (omega arith) (omega arith)
by_arithmetic ShiftLeft a b n = either (nat_lt b 64) _ (Faulty 5) n (omega arith) (omega arith)
by_arithmetic ShiftRight a b n = either (nat_lt b 64) _ (Faulty 5) n (omega arith) (omega arith)
by_arithmetic Or a b n = omega arith
by_arithmetic And a b n = omega arith
by_arithmetic ExclusiveOr a b n = omega arith
by_arithmetic Add a b n = omega arith
by_arithmetic Subtract a b n = omega arith

by_refused : (o : BinaryOperator) (v w : Value) (n : ℕ) → value_heft (refused o v w) ≤ n
by_refused o (Faulty c) (Faulty d) n = omega arith
by_refused o (Faulty c) (Constant b) n = omega arith
by_refused o (Faulty c) (Symbolic p at k) n = omega arith
by_refused o (Faulty c) (Difference p r k) n = omega arith
by_refused o (Constant a) (Faulty d) n = omega arith
by_refused o (Constant a) (Constant b) n = omega arith
by_refused o (Constant a) (Symbolic p at k) n = omega arith
by_refused o (Constant a) (Difference p r k) n = omega arith
by_refused o (Symbolic p at k) (Faulty d) n = omega arith
by_refused o (Symbolic p at k) (Constant b) n = omega arith
by_refused o (Symbolic p at k) (Symbolic r bt j) n = omega arith
by_refused o (Symbolic p at k) (Difference r s j) n = omega arith
by_refused o (Difference p r k) (Faulty d) n = omega arith
by_refused o (Difference p r k) (Constant b) n = omega arith
by_refused o (Difference p r k) (Symbolic s bt j) n = omega arith
by_refused o (Difference p r k) (Difference s u j) n = omega arith

by_apart : (s t : Meaning) (p r : Primary) (k : ℕ) → value_heft (apart s t p r k) ≤ symbol_heft p + symbol_heft r
by_apart (InSection s a) (InSection t b) p r k = either (s == t) (Constant _) (Difference p r k) (symbol_heft p + symbol_heft r) (omega arith) (omega arith)
by_apart (InSection s a) (Known n) p r k = omega arith
by_apart (InSection s a) Open p r k = omega arith
by_apart (InSection s a) (Refused c) p r k = omega arith
by_apart (Known n) t p r k = omega arith
by_apart Open t p r k = omega arith
by_apart (Refused c) t p r k = omega arith

by_sum : (v w : Value) → value_heft (sum v w) ≤ value_heft v + value_heft w
by_sum (Constant a) (Constant b) = omega arith
by_sum (Constant a) (Symbolic p at n) = omega arith
by_sum (Constant a) (Difference p r n) = omega arith
by_sum (Constant a) (Faulty c) = omega arith
by_sum (Symbolic p at n) (Constant b) = omega arith
by_sum (Symbolic p at n) (Symbolic r bt j) = omega arith
by_sum (Symbolic p at n) (Difference r s j) = omega arith
by_sum (Symbolic p at n) (Faulty c) = omega arith
by_sum (Difference p r n) (Constant b) = omega arith
by_sum (Difference p r n) (Symbolic s bt j) = omega arith
by_sum (Difference p r n) (Difference s u j) = omega arith
by_sum (Difference p r n) (Faulty c) = omega arith
by_sum (Faulty c) w = by_refused Add (Faulty c) w (value_heft (Faulty c) + value_heft w)

by_difference : (v w : Value) → value_heft (difference v w) ≤ value_heft v + value_heft w
by_difference (Constant a) (Constant b) = omega arith
by_difference (Constant a) (Symbolic p at n) = omega arith
by_difference (Constant a) (Difference p r n) = omega arith
by_difference (Constant a) (Faulty c) = omega arith
by_difference (Symbolic p at n) (Constant b) = omega arith
by_difference (Symbolic p at n) (Symbolic r bt j) = by_apart at bt p r _
by_difference (Symbolic p at n) (Difference r s j) = omega arith
by_difference (Symbolic p at n) (Faulty c) = omega arith
by_difference (Difference p r n) (Constant b) = omega arith
by_difference (Difference p r n) (Symbolic s bt j) = omega arith
by_difference (Difference p r n) (Difference s u j) = omega arith
by_difference (Difference p r n) (Faulty c) = omega arith
by_difference (Faulty c) w = by_refused Subtract (Faulty c) w (value_heft (Faulty c) + value_heft w)

by_constants : (o : BinaryOperator) (v w : Value) (n : ℕ) → value_heft (constants_alone o v w) ≤ n
by_constants o (Constant a) (Constant b) n = by_arithmetic o a b n
by_constants o (Constant a) (Symbolic p at k) n = omega arith
by_constants o (Constant a) (Difference p r k) n = omega arith
by_constants o (Constant a) (Faulty c) n = omega arith
by_constants o (Symbolic p at k) w n = by_refused o (Symbolic p at k) w n
by_constants o (Difference p r k) w n = by_refused o (Difference p r k) w n
by_constants o (Faulty c) w n = by_refused o (Faulty c) w n

by_both : (o : BinaryOperator) (v w : Value) → value_heft (both o v w) ≤ value_heft v + value_heft w
by_both Add v w = by_sum v w
by_both Subtract v w = by_difference v w
by_both Multiply v w = by_constants Multiply v w (value_heft v + value_heft w)
by_both Divide v w = by_constants Divide v w (value_heft v + value_heft w)
by_both Remainder v w = by_constants Remainder v w (value_heft v + value_heft w)
by_both ShiftLeft v w = by_constants ShiftLeft v w (value_heft v + value_heft w)
by_both ShiftRight v w = by_constants ShiftRight v w (value_heft v + value_heft w)
by_both Or v w = by_constants Or v w (value_heft v + value_heft w)
by_both And v w = by_constants And v w (value_heft v + value_heft w)
by_both ExclusiveOr v w = by_constants ExclusiveOr v w (value_heft v + value_heft w)

by_alone : (o : UnaryOperator) (v : Value) → value_heft (unary_value o v) ≤ value_heft v
by_alone Keep v = omega arith
by_alone Negate (Constant a) = omega arith
by_alone Negate (Symbolic p at k) = omega arith
by_alone Negate (Difference p r k) = omega arith
by_alone Negate (Faulty c) = omega arith
by_alone Complement (Constant a) = omega arith
by_alone Complement (Symbolic p at k) = omega arith
by_alone Complement (Difference p r k) = omega arith
by_alone Complement (Faulty c) = omega arith

by_meaning : (p : Primary) (at : Meaning) → value_heft (meant p at) ≤ symbol_heft p
by_meaning p (Known n) = omega arith
by_meaning p (Refused c) = omega arith
by_meaning p (InSection s a) = omega arith
by_meaning p Open = omega arith

module _ (m : Primary → Meaning) where
  by_primary : (p : Primary) → value_heft (primary_value m p) ≤ symbol_heft p
  by_primary (Literal n) = omega arith
  by_primary (Symbol name) = by_meaning (Symbol name) (m (Symbol name))
  by_primary Here = by_meaning Here (m Here)
  by_primary (Reference d f) = by_meaning (Reference d f) (m (Reference d f))

  pub by_value : (e : Tree) → value_heft (value_of m e) ≤ weight (tree_names e)
  by_value (Leaf p) = by_primary p
  by_value (Unary o x) = let a = by_alone o (value_of m x) in let b = by_value x in omega (arith, a, b)
  by_value (Paren x) = by_value x
  by_value (Binary o x y) =
      let a = by_both o (value_of m x) (value_of m y) in
      let b = by_value x in
      let c = by_value y in
      let d = weight_append (tree_names x) (tree_names y) in
      omega (arith, a, b, c, d)
