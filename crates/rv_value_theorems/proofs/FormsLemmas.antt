-- What has a sort and a number has a form.

use Rattle.std.proofs.Common.{ℕ, ◌==◌, nat_lt, Bool, true, false, if◌then◌else◌, Option, Some, None, option_map, option_and_then, IsSome, subst}
use Rattle.rv_expression_laws.specs.declared.operator.UnaryOperator.{UnaryOperator}
use Rattle.rv_expression_laws.specs.declared.operator.UnaryOperator.TheVariants.{Negate, Complement, Keep}
use Rattle.rv_expression_laws.specs.declared.operator.BinaryOperator.{BinaryOperator}
use Rattle.rv_expression_laws.specs.declared.operator.BinaryOperator.TheVariants.{Multiply, Divide, Remainder, ShiftLeft, ShiftRight, Or, And, ExclusiveOr, Add, Subtract}
use Rattle.rv_expression_laws.specs.Expression.{Primary, Literal, Symbol, Here, Reference, Tree, Leaf, Unary, Paren, Binary}
use Rattle.rv_expression_laws.specs.Values.{Meaning, Known, InSection, Open, Refused, Value, Constant, Symbolic, Difference, Faulty, subtract, arithmetic, apart, sum, difference, constants_alone, both, unary_value, meant, value_of}
use Rattle.rv_value_theorems.specs.Plain.{of_one, of_two, of_both, plain}
use Rattle.rv_value_theorems.specs.Agreement.{number_meant, numbers, HasForm}
use Rattle.rv_value_theorems.specs.Forms.{Sort, A_number, A_place, A_distance, sum_sort, difference_sort, number_sort, both_sort, unary_sort, meaning_sort, sort_of}
use Rattle.rv_value_theorems.proofs.ValuesLemmas.{kept, negated}
use Rattle.rv_value_theorems.proofs.AgreementLemmas.{under_map, of_both_left, of_both_right}

-- a value of a sort beside its number
data Formed : Sort → Value → Option ℕ → Type 0 where
  number : (n : ℕ) → Formed A_number (Constant n) (Some n)
  place : (p : Primary) (at : Meaning) (k : ℕ) (r : Option ℕ) → Formed A_place (Symbolic p at k) r
  near : (n : ℕ) (r : Option ℕ) → Formed A_distance (Constant n) r
  far : (p q : Primary) (k : ℕ) (r : Option ℕ) → Formed A_distance (Difference p q k) r

abbrev FormedAs : Option Sort → Value → Option ℕ → Type 0
FormedAs None v r = Unit {0}
FormedAs (Some s) v r = Formed s v r

sum_formed : (s t : Sort) (v w : Value) (r q : Option ℕ) → Formed s v r → Formed t w q → FormedAs (sum_sort s t) (sum v w) (of_both Add r q)
sum_formed s t v w r q (number n) (number d) = number _
sum_formed s t v w r q (number n) (place p at k x) = place _ _ _ _
sum_formed s t v w r q (number n) (near d x) = near _ _
sum_formed s t v w r q (number n) (far p b k x) = far _ _ _ _
sum_formed s t v w r q (place p at k x) (number n) = place _ _ _ _
sum_formed s t v w r q (near d x) (number n) = near _ _
sum_formed s t v w r q (far p b k x) (number n) = far _ _ _ _
sum_formed s t v w r q (place p at k x) (place b bt j y) = tt
sum_formed s t v w r q (place p at k x) (near d y) = tt
sum_formed s t v w r q (place p at k x) (far b c j y) = tt
sum_formed s t v w r q (near d x) (place b bt j y) = tt
sum_formed s t v w r q (near d x) (near e y) = tt
sum_formed s t v w r q (near d x) (far b c j y) = tt
sum_formed s t v w r q (far p b k x) (place c bt j y) = tt
sum_formed s t v w r q (far p b k x) (near e y) = tt
sum_formed s t v w r q (far p b k x) (far c d j y) = tt

either_formed : (b : Bool) (n : ℕ) (p q : Primary) (k : ℕ) (r : Option ℕ) → Formed A_distance (if b then Constant n else Difference p q k) r
either_formed true n p q k r = near n r
either_formed false n p q k r = far p q k r

apart_formed : (s t : Meaning) (p q : Primary) (k : ℕ) (r : Option ℕ) → Formed A_distance (apart s t p q k) r
apart_formed (InSection i o) (InSection l u) p q k r = either_formed (i == l) _ p q k r
apart_formed (InSection i o) (Known n) p q k r = far p q k r
apart_formed (InSection i o) Open p q k r = far p q k r
apart_formed (InSection i o) (Refused c) p q k r = far p q k r
apart_formed (Known n) t p q k r = far p q k r
apart_formed Open t p q k r = far p q k r
apart_formed (Refused c) t p q k r = far p q k r

difference_formed : (s t : Sort) (v w : Value) (r q : Option ℕ) → Formed s v r → Formed t w q → FormedAs (difference_sort s t) (difference v w) (of_both Subtract r q)
difference_formed s t v w r q (number n) (number d) = number _
difference_formed s t v w r q (place p at k x) (number n) = place _ _ _ _
difference_formed s t v w r q (near d x) (number n) = near _ _
difference_formed s t v w r q (far p b k x) (number n) = far _ _ _ _
difference_formed s t v w r q (place p at k x) (place b bt j y) = apart_formed at bt p b (subtract k j) _
difference_formed s t v w r q (number n) (place p at k x) = tt
difference_formed s t v w r q (number n) (near d x) = tt
difference_formed s t v w r q (number n) (far p b k x) = tt
difference_formed s t v w r q (place p at k x) (near d y) = tt
difference_formed s t v w r q (place p at k x) (far b c j y) = tt
difference_formed s t v w r q (near d x) (place b bt j y) = tt
difference_formed s t v w r q (near d x) (near e y) = tt
difference_formed s t v w r q (near d x) (far b c j y) = tt
difference_formed s t v w r q (far p b k x) (place c bt j y) = tt
difference_formed s t v w r q (far p b k x) (near e y) = tt
difference_formed s t v w r q (far p b k x) (far c d j y) = tt

where_true : (b : Bool) (n code : ℕ) → IsSome (if b then Some n else None) → Formed A_number (if b then Constant n else Faulty code) (if b then Some n else None)
where_true true n code some = number n
where_true false n code some = absurd (cc)

where_false : (b : Bool) (n code : ℕ) → IsSome (if b then None else Some n) → Formed A_number (if b then Faulty code else Constant n) (if b then None else Some n)
where_false true n code some = absurd (cc)
where_false false n code some = number n

arithmetic_formed : (o : BinaryOperator) (c d : ℕ) → IsSome (of_two o c d) → Formed A_number (arithmetic o c d) (of_two o c d)
arithmetic_formed Multiply c d some = number _
arithmetic_formed Divide c d some = where_false (d == 0) _ _ some
arithmetic_formed Remainder c d some = where_false (d == 0) _ _ some
arithmetic_formed ShiftLeft c d some = where_true (nat_lt d 64) _ _ some
arithmetic_formed ShiftRight c d some = where_true (nat_lt d 64) _ _ some
arithmetic_formed Or c d some = number _
arithmetic_formed And c d some = number _
arithmetic_formed ExclusiveOr c d some = number _
arithmetic_formed Add c d some = number _
arithmetic_formed Subtract c d some = number _

constants_formed : (o : BinaryOperator) (s t : Sort) (v w : Value) (r q : Option ℕ) → Formed s v r → Formed t w q → IsSome (of_both o r q) → FormedAs (number_sort s t) (constants_alone o v w) (of_both o r q)
constants_formed o s t v w r q (number c) (number d) some = arithmetic_formed o c d some
constants_formed o s t v w r q (number n) (place p at k x) some = tt
constants_formed o s t v w r q (number n) (near d x) some = tt
constants_formed o s t v w r q (number n) (far p b k x) some = tt
constants_formed o s t v w r q (place p at k x) f some = tt
constants_formed o s t v w r q (near d x) f some = tt
constants_formed o s t v w r q (far p b k x) f some = tt

both_formed : (o : BinaryOperator) (s t : Sort) (v w : Value) (r q : Option ℕ) → Formed s v r → Formed t w q → IsSome (of_both o r q) → FormedAs (both_sort o s t) (both o v w) (of_both o r q)
both_formed Add s t v w r q f g some = sum_formed s t v w r q f g
both_formed Subtract s t v w r q f g some = difference_formed s t v w r q f g
both_formed Multiply s t v w r q f g some = constants_formed Multiply s t v w r q f g some
both_formed Divide s t v w r q f g some = constants_formed Divide s t v w r q f g some
both_formed Remainder s t v w r q f g some = constants_formed Remainder s t v w r q f g some
both_formed ShiftLeft s t v w r q f g some = constants_formed ShiftLeft s t v w r q f g some
both_formed ShiftRight s t v w r q f g some = constants_formed ShiftRight s t v w r q f g some
both_formed Or s t v w r q f g some = constants_formed Or s t v w r q f g some
both_formed And s t v w r q f g some = constants_formed And s t v w r q f g some
both_formed ExclusiveOr s t v w r q f g some = constants_formed ExclusiveOr s t v w r q f g some

both_options : (o : BinaryOperator) (s t : Option Sort) (v w : Value) (r q : Option ℕ) → FormedAs s v r → FormedAs t w q → IsSome (of_both o r q)
    → FormedAs (option_and_then (λ x. option_and_then (λ y. both_sort o x y) t) s) (both o v w) (of_both o r q)
both_options o None t v w r q f g some = tt
both_options o (Some s) None v w r q f g some = tt
both_options o (Some s) (Some t) v w r q f g some = both_formed o s t v w r q f g some

unary_formed : (o : UnaryOperator) (s : Sort) (v : Value) (r : Option ℕ) → Formed s v r → FormedAs (unary_sort o s) (unary_value o v) (option_map (of_one o) r)
unary_formed Keep s v r f = subst (λ (n : Option ℕ). Formed s v n) (kept r) f
unary_formed Negate s v r (number n) = rw (negated n) (number _)
unary_formed Negate s v r (place p at k x) = tt
unary_formed Negate s v r (near n x) = tt
unary_formed Negate s v r (far p q k x) = tt
unary_formed Complement s v r (number n) = number _
unary_formed Complement s v r (place p at k x) = tt
unary_formed Complement s v r (near n x) = tt
unary_formed Complement s v r (far p q k x) = tt

unary_option : (o : UnaryOperator) (s : Option Sort) (v : Value) (r : Option ℕ) → FormedAs s v r → FormedAs (option_and_then (unary_sort o) s) (unary_value o v) (option_map (of_one o) r)
unary_option o None v r f = tt
unary_option o (Some s) v r f = unary_formed o s v r f

name_formed : (p : Primary) (at : Meaning) (n : Option ℕ) → FormedAs (meaning_sort at) (meant p at) (number_meant at n)
name_formed p (Known k) n = number k
name_formed p (InSection i o) n = place p (InSection i o) 0 n
name_formed p Open n = place p Open 0 n
name_formed p (Refused c) n = tt

value_formed : (m : Primary → Meaning) (a : Primary → Option ℕ) (e : Tree) → IsSome (plain (numbers m a) e) → FormedAs (sort_of m e) (value_of m e) (plain (numbers m a) e)
value_formed m a (Leaf (Literal n)) some = number n
value_formed m a (Leaf (Symbol name)) some = name_formed (Symbol name) (m (Symbol name)) (a (Symbol name))
value_formed m a (Leaf Here) some = name_formed Here (m Here) (a Here)
value_formed m a (Leaf (Reference digits forward)) some = name_formed (Reference digits forward) (m (Reference digits forward)) (a (Reference digits forward))
value_formed m a (Unary o x) some =
    unary_option o (sort_of m x) (value_of m x) (plain (numbers m a) x) (value_formed m a x (under_map (of_one o) (plain (numbers m a) x) some))
value_formed m a (Paren x) some = value_formed m a x some
value_formed m a (Binary o x y) some =
    both_options o (sort_of m x) (sort_of m y) (value_of m x) (value_of m y) (plain (numbers m a) x) (plain (numbers m a) y)
    (value_formed m a x (of_both_left o (plain (numbers m a) x) (plain (numbers m a) y) some)) (value_formed m a y (of_both_right o (plain (numbers m a) x) (plain (numbers m a) y) some)) some

formed_form : (s : Sort) (v : Value) (r : Option ℕ) → Formed s v r → HasForm v
formed_form s v r (number n) = tt
formed_form s v r (place p at k x) = tt
formed_form s v r (near n x) = tt
formed_form s v r (far p q k x) = tt

option_form : (s : Option Sort) (v : Value) (r : Option ℕ) → IsSome s → FormedAs s v r → HasForm v
option_form None v r some f = absurd (cc)
option_form (Some s) v r some f = formed_form s v r f

pub sorted_form : (m : Primary → Meaning) (a : Primary → Option ℕ) (e : Tree) → IsSome (sort_of m e) → IsSome (plain (numbers m a) e) → HasForm (value_of m e)
sorted_form m a e sorted some = option_form (sort_of m e) (value_of m e) (plain (numbers m a) e) sorted (value_formed m a e some)
