-- An expression of constants is a constant, or a fault where plain arithmetic gives no number.

use Rattle.std.proofs.Common.{◌≡◌, ℕ, ◌↔◌, Bool, true, false, if◌then◌else◌, Option, Some, None, option_map, refl, ap, subst}
use Rattle.rv_expression_laws.specs.declared.operator.UnaryOperator.{UnaryOperator}
use Rattle.rv_expression_laws.specs.declared.operator.UnaryOperator.TheVariants.{Negate, Complement, Keep}
use Rattle.rv_expression_laws.specs.declared.operator.BinaryOperator.{BinaryOperator}
use Rattle.rv_expression_laws.specs.declared.operator.BinaryOperator.TheVariants.{Multiply, Divide, Remainder, ShiftLeft, ShiftRight, Or, And, ExclusiveOr, Add, Subtract}
use Rattle.rv_expression_laws.specs.Expression.{Primary, Literal, Symbol, Here, Reference, Tree, Leaf, Unary, Paren, Binary}
use Rattle.rv_expression_laws.specs.Values.{Meaning, Known, InSection, Open, Refused, Value, Constant, Symbolic, Difference, Faulty, both, unary_value, meant, value_of}
use Rattle.rv_value_theorems.specs.Plain.{of_one, of_two, of_both, plain}
use Rattle.rv_value_theorems.specs.Agreement.{number_meant, numbers, IsConstant, AreConstants, HasForm}
use Rattle.rv_value_theorems.proofs.ValuesLemmas.{kept, negated}

abbrev pub Sure : Value → Option ℕ → Type 0
Sure (Constant n) r = r ≡ Some n
Sure (Symbolic p at k) r = ⊥
Sure (Difference p q k) r = ⊥
Sure (Faulty code) r = r ≡ None

where_true : (b : Bool) (n code : ℕ) → Sure (if b then Constant n else Faulty code) (if b then Some n else None)
where_true true n code = refl
where_true false n code = refl

where_false : (b : Bool) (n code : ℕ) → Sure (if b then Faulty code else Constant n) (if b then None else Some n)
where_false true n code = refl
where_false false n code = refl

two_sure : (o : BinaryOperator) (c d : ℕ) → Sure (both o (Constant c) (Constant d)) (of_two o c d)
two_sure Multiply c d = refl
two_sure Divide c d = where_false _ _ _
two_sure Remainder c d = where_false _ _ _
two_sure ShiftLeft c d = where_true _ _ _
two_sure ShiftRight c d = where_true _ _ _
two_sure Or c d = refl
two_sure And c d = refl
two_sure ExclusiveOr c d = refl
two_sure Add c d = refl
two_sure Subtract c d = refl

-- a fault on either side is one of the whole
left_fault : (o : BinaryOperator) (c d : ℕ) → Sure (both o (Faulty c) (Constant d)) None
left_fault Multiply c d = refl
left_fault Divide c d = refl
left_fault Remainder c d = refl
left_fault ShiftLeft c d = refl
left_fault ShiftRight c d = refl
left_fault Or c d = refl
left_fault And c d = refl
left_fault ExclusiveOr c d = refl
left_fault Add c d = refl
left_fault Subtract c d = refl

right_fault : (o : BinaryOperator) (c d : ℕ) → Sure (both o (Constant c) (Faulty d)) None
right_fault Multiply c d = refl
right_fault Divide c d = refl
right_fault Remainder c d = refl
right_fault ShiftLeft c d = refl
right_fault ShiftRight c d = refl
right_fault Or c d = refl
right_fault And c d = refl
right_fault ExclusiveOr c d = refl
right_fault Add c d = refl
right_fault Subtract c d = refl

two_faults : (o : BinaryOperator) (c d : ℕ) → Sure (both o (Faulty c) (Faulty d)) None
two_faults Multiply c d = refl
two_faults Divide c d = refl
two_faults Remainder c d = refl
two_faults ShiftLeft c d = refl
two_faults ShiftRight c d = refl
two_faults Or c d = refl
two_faults And c d = refl
two_faults ExclusiveOr c d = refl
two_faults Add c d = refl
two_faults Subtract c d = refl

both_sure : (o : BinaryOperator) (v w : Value) (r s : Option ℕ) → Sure v r → Sure w s → Sure (both o v w) (of_both o r s)
both_sure o (Constant c) (Constant d) r s vs ws = rw (vs, ws) (two_sure o c d)
both_sure o (Constant c) (Faulty d) r s vs ws = rw (vs, ws) (right_fault o c d)
both_sure o (Faulty c) (Constant d) r s vs ws = rw vs (left_fault o c d)
both_sure o (Faulty c) (Faulty d) r s vs ws = rw vs (two_faults o c d)
both_sure o (Constant c) (Symbolic p at k) r s vs ws = absurd ws
both_sure o (Constant c) (Difference p q k) r s vs ws = absurd ws
both_sure o (Faulty c) (Symbolic p at k) r s vs ws = absurd ws
both_sure o (Faulty c) (Difference p q k) r s vs ws = absurd ws
both_sure o (Symbolic p at k) w r s vs ws = absurd vs
both_sure o (Difference p q k) w r s vs ws = absurd vs

unary_sure : (o : UnaryOperator) (v : Value) (r : Option ℕ) → Sure v r → Sure (unary_value o v) (option_map (of_one o) r)
unary_sure Keep v r vs = subst (λ (n : Option ℕ). Sure v n) (kept r) vs
unary_sure Negate (Constant c) r vs = rw vs (ap Some (negated c))
unary_sure Negate (Symbolic p at k) r vs = absurd vs
unary_sure Negate (Difference p q k) r vs = absurd vs
unary_sure Negate (Faulty c) r vs = rw vs refl
unary_sure Complement (Constant c) r vs = rw vs refl
unary_sure Complement (Symbolic p at k) r vs = absurd vs
unary_sure Complement (Difference p q k) r vs = absurd vs
unary_sure Complement (Faulty c) r vs = rw vs refl

name_sure : (p : Primary) (at : Meaning) (n : Option ℕ) → IsConstant at → Sure (meant p at) (number_meant at n)
name_sure p (Known k) n is = refl
name_sure p (InSection s o) n is = absurd is
name_sure p Open n is = absurd is
name_sure p (Refused code) n is = absurd is

value_sure : (m : Primary → Meaning) (a : Primary → Option ℕ) (e : Tree) → AreConstants m e → Sure (value_of m e) (plain (numbers m a) e)
value_sure m a (Leaf (Literal number)) are = refl
value_sure m a (Leaf (Symbol name)) are = name_sure (Symbol name) (m (Symbol name)) (a (Symbol name)) are
value_sure m a (Leaf Here) are = name_sure Here (m Here) (a Here) are
value_sure m a (Leaf (Reference digits forward)) are =
    name_sure (Reference digits forward) (m (Reference digits forward)) (a (Reference digits forward)) are
value_sure m a (Unary o x) are = unary_sure o (value_of m x) (plain (numbers m a) x) (value_sure m a x are)
value_sure m a (Paren x) are = value_sure m a x are
value_sure m a (Binary o x y) are =
    both_sure o (value_of m x) (value_of m y) (plain (numbers m a) x) (plain (numbers m a) y) (value_sure m a x are.0) (value_sure m a y are.1)

sure_is : (v : Value) (r : Option ℕ) (x : ℕ) → Sure v r → (v ≡ Constant x) ↔ (r ≡ Some x)
sure_is (Constant n) r x vs = (λ is. cc, λ is. cc)
sure_is (Symbolic p at k) r x vs = absurd vs
sure_is (Difference p q k) r x vs = absurd vs
sure_is (Faulty code) r x vs = (λ is. absurd (cc), λ is. absurd (cc))

pub constant_is : (m : Primary → Meaning) (a : Primary → Option ℕ) (e : Tree) (x : ℕ) → AreConstants m e → (value_of m e ≡ Constant x) ↔ (plain (numbers m a) e ≡ Some x)
constant_is m a e x are = sure_is (value_of m e) (plain (numbers m a) e) x (value_sure m a e are)

sure_faulty : (v : Value) (r : Option ℕ) → Sure v r → r ≡ None → HasForm v → ⊥
sure_faulty (Constant n) r vs none form = cc
sure_faulty (Symbolic p at k) r vs none form = vs
sure_faulty (Difference p q k) r vs none form = vs
sure_faulty (Faulty code) r vs none form = form

pub constant_faulty : (m : Primary → Meaning) (a : Primary → Option ℕ) (e : Tree) → AreConstants m e → plain (numbers m a) e ≡ None → HasForm (value_of m e) → ⊥
constant_faulty m a e are none form = sure_faulty (value_of m e) (plain (numbers m a) e) (value_sure m a e are) none form
