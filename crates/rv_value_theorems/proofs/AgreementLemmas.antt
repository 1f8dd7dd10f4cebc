-- The value of an expression goes with the number that plain arithmetic gives.

use Rattle.std.proofs.Common.{◌≡◌, ℕ, Option, Some, None, option_map, IfSome, IsSome, refl, ◌∙◌, ap}
use Rattle.rv_expression_laws.specs.declared.operator.BinaryOperator.{BinaryOperator}
use Rattle.rv_expression_laws.specs.Expression.{Primary, Literal, Symbol, Here, Reference, Tree, Leaf, Unary, Paren, Binary}
use Rattle.rv_expression_laws.specs.Values.{Meaning, Known, InSection, Open, Refused, value_of, add}
use Rattle.rv_source_laws.specs.Program.{resolved}
use Rattle.rv_value_theorems.specs.Plain.{of_both, plain}
use Rattle.rv_value_theorems.specs.Agreement.{IsMeant, HasItsNumber, Agree, HaveTheirNumbers, number_meant, numbers, HasForm}
use Rattle.rv_value_theorems.proofs.ValuesLemmas.{Standing, resolved_is, both_stand, unary_stands, IsGiven, name_stands}

-- so of each name of an expression, by addresses and by numbers
abbrev pub AreGiven : (ℕ → ℕ) → (Primary → Meaning) → (Primary → Option ℕ) → (Primary → Option ℕ) → Tree → Type 0
AreGiven base m a b (Leaf (Literal number)) = Unit {0}
AreGiven base m a b (Leaf p) = IsGiven base (m p) (a p) (b p)
AreGiven base m a b (Unary o x) = AreGiven base m a b x
AreGiven base m a b (Paren x) = AreGiven base m a b x
AreGiven base m a b (Binary o x y) = AreGiven base m a b x × AreGiven base m a b y

pub value_stands : (base : ℕ → ℕ) (m : Primary → Meaning) (a b : Primary → Option ℕ) (e : Tree) → AreGiven base m a b e → Standing base a (value_of m e) (plain b e)
value_stands base m a b (Leaf (Literal number)) given = refl
value_stands base m a b (Leaf (Symbol name)) given = name_stands base a (Symbol name) (m (Symbol name)) (b (Symbol name)) given
value_stands base m a b (Leaf Here) given = name_stands base a Here (m Here) (b Here) given
value_stands base m a b (Leaf (Reference digits forward)) given =
    name_stands base a (Reference digits forward) (m (Reference digits forward)) (b (Reference digits forward)) given
value_stands base m a b (Unary o x) given = unary_stands base a o (value_of m x) (plain b x) (value_stands base m a b x given)
value_stands base m a b (Paren x) given = value_stands base m a b x given
value_stands base m a b (Binary o x y) given =
    both_stand base a o (value_of m x) (value_of m y) (plain b x) (plain b y) (value_stands base m a b x given.0) (value_stands base m a b y given.1)

-- ---- what the law presupposes

only_it : (n : Option ℕ) (k : ℕ) → IfSome n (λ x. x ≡ k) → IsSome n → n ≡ Some k
only_it None k is some = absurd (cc)
only_it (Some x) k is some = ap Some is

name_given : (base : ℕ → ℕ) (at : Meaning) (n : Option ℕ) → IsMeant base at n → HasItsNumber at n → IsGiven base at n n
name_given base (Known k) n is some = only_it n k is some
name_given base (InSection s o) n is some = (is.0, only_it n (add (base s) o) is.1 some, refl)
name_given base Open n is some = (is, refl)
name_given base (Refused code) n is some = tt

agreed : (base : ℕ → ℕ) (m : Primary → Meaning) (a : Primary → Option ℕ) (e : Tree) → Agree base m a e → HaveTheirNumbers m a e → AreGiven base m a a e
agreed base m a (Leaf (Literal number)) agree some = tt
agreed base m a (Leaf (Symbol name)) agree some = name_given base (m (Symbol name)) (a (Symbol name)) agree some
agreed base m a (Leaf Here) agree some = name_given base (m Here) (a Here) agree some
agreed base m a (Leaf (Reference digits forward)) agree some =
    name_given base (m (Reference digits forward)) (a (Reference digits forward)) agree some
agreed base m a (Unary o x) agree some = agreed base m a x agree some
agreed base m a (Paren x) agree some = agreed base m a x agree some
agreed base m a (Binary o x y) agree some = (agreed base m a x agree.0 some.0, agreed base m a y agree.1 some.1)

pub plain_value : (base : ℕ → ℕ) (m : Primary → Meaning) (a : Primary → Option ℕ) (e : Tree) → Agree base m a e → HaveTheirNumbers m a e → HasForm (value_of m e) → resolved a (value_of m e) ≡ plain a e
plain_value base m a e agree some form =
    resolved_is base a (value_of m e) (plain a e) (value_stands base m a a e (agreed base m a e agree some)) form

-- ---- a number of the whole comes from numbers of all names

has_it : (at : Meaning) (n : Option ℕ) → IsSome n → HasItsNumber at n
has_it (Known k) n some = some
has_it (InSection s o) n some = some
has_it Open n some = tt
has_it (Refused code) n some = tt

pub under_map : (f : ℕ → ℕ) (n : Option ℕ) → IsSome (option_map f n) → IsSome n
under_map f None some = some
under_map f (Some x) some = refl

pub of_both_left : (o : BinaryOperator) (n k : Option ℕ) → IsSome (of_both o n k) → IsSome n
of_both_left o None k some = some
of_both_left o (Some x) k some = refl

pub of_both_right : (o : BinaryOperator) (n k : Option ℕ) → IsSome (of_both o n k) → IsSome k
of_both_right o None k some = absurd (cc)
of_both_right o (Some x) None some = some
of_both_right o (Some x) (Some y) some = refl

all_have : (m : Primary → Meaning) (a : Primary → Option ℕ) (e : Tree) → IsSome (plain a e) → HaveTheirNumbers m a e
all_have m a (Leaf (Literal number)) some = tt
all_have m a (Leaf (Symbol name)) some = has_it (m (Symbol name)) (a (Symbol name)) some
all_have m a (Leaf Here) some = has_it (m Here) (a Here) some
all_have m a (Leaf (Reference digits forward)) some = has_it (m (Reference digits forward)) (a (Reference digits forward)) some
all_have m a (Unary o x) some = all_have m a x (under_map _ (plain a x) some)
all_have m a (Paren x) some = all_have m a x some
all_have m a (Binary o x y) some =
    (all_have m a x (of_both_left o (plain a x) (plain a y) some), all_have m a y (of_both_right o (plain a x) (plain a y) some))

pub plain_found : (base : ℕ → ℕ) (m : Primary → Meaning) (a : Primary → Option ℕ) (e : Tree) (x : ℕ) → Agree base m a e → HasForm (value_of m e) → plain a e ≡ Some x → resolved a (value_of m e) ≡ Some x
plain_found base m a e x agree form is = plain_value base m a e agree (all_have m a e (rw is refl)) form ∙ is

-- ---- by addresses

name_addressed : (base : ℕ → ℕ) (at : Meaning) (n : Option ℕ) → IsMeant base at (number_meant at n) → HasItsNumber at (number_meant at n) → IsGiven base at n (number_meant at n)
name_addressed base (Known k) n is some = refl
name_addressed base (InSection s o) n is some = (is.0, only_it n (add (base s) o) is.1 some, refl)
name_addressed base Open n is some = (is, refl)
name_addressed base (Refused code) n is some = tt

addressed : (base : ℕ → ℕ) (m : Primary → Meaning) (a : Primary → Option ℕ) (e : Tree) → Agree base m (numbers m a) e → HaveTheirNumbers m (numbers m a) e → AreGiven base m a (numbers m a) e
addressed base m a (Leaf (Literal number)) agree some = tt
addressed base m a (Leaf (Symbol name)) agree some = name_addressed base (m (Symbol name)) (a (Symbol name)) agree some
addressed base m a (Leaf Here) agree some = name_addressed base (m Here) (a Here) agree some
addressed base m a (Leaf (Reference digits forward)) agree some =
    name_addressed base (m (Reference digits forward)) (a (Reference digits forward)) agree some
addressed base m a (Unary o x) agree some = addressed base m a x agree some
addressed base m a (Paren x) agree some = addressed base m a x agree some
addressed base m a (Binary o x y) agree some = (addressed base m a x agree.0 some.0, addressed base m a y agree.1 some.1)

pub value_by_addresses : (base : ℕ → ℕ) (m : Primary → Meaning) (a : Primary → Option ℕ) (e : Tree) → Agree base m (numbers m a) e → HaveTheirNumbers m (numbers m a) e → HasForm (value_of m e) → resolved a (value_of m e) ≡ plain (numbers m a) e
value_by_addresses base m a e agree some form =
    resolved_is base a (value_of m e) (plain (numbers m a) e) (value_stands base m a (numbers m a) e (addressed base m a e agree some)) form

pub found_by_addresses : (base : ℕ → ℕ) (m : Primary → Meaning) (a : Primary → Option ℕ) (e : Tree) (x : ℕ) → Agree base m (numbers m a) e → HasForm (value_of m e) → plain (numbers m a) e ≡ Some x → resolved a (value_of m e) ≡ Some x
found_by_addresses base m a e x agree form is =
    value_by_addresses base m a e agree (all_have m (numbers m a) e (rw is refl)) form ∙ is
