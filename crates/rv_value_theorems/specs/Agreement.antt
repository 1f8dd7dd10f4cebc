-- What the numbers of names have to do with what the names mean.

use Rattle.std.specs.Prelude.{◌≡◌, ℕ, ◌^◌, ◌<◌, Option, Some, IsSome, IfSome}
use Rattle.rv_expression_laws.specs.Expression.{Primary, Literal, Tree, Leaf, Unary, Paren, Binary}
use Rattle.rv_expression_laws.specs.Values.{Meaning, Known, InSection, Open, Refused, Value, Constant, Symbolic, Difference, Faulty, add}

-- the number of a name, if it has one, is the constant that it means, or its offset from where its
-- section begins
abbrev pub IsMeant : (ℕ → ℕ) → Meaning → Option ℕ → Type 0
IsMeant base (Known n) number = IfSome number (λ x. x ≡ n)
IsMeant base (InSection section offset) number =
    (offset < 2 ^ 64) × IfSome number (λ x. x ≡ add (base section) offset)
IsMeant base Open number = IfSome number (λ x. x < 2 ^ 64)
IsMeant base (Refused code) number = Unit {0}

-- what means a constant or a place has a number
abbrev pub HasItsNumber : Meaning → Option ℕ → Type 0
HasItsNumber (Known n) number = IsSome number
HasItsNumber (InSection section offset) number = IsSome number
HasItsNumber Open number = Unit {0}
HasItsNumber (Refused code) number = Unit {0}

-- so of each name of an expression; where the sections begin is the same for all
abbrev pub Agree : (ℕ → ℕ) → (Primary → Meaning) → (Primary → Option ℕ) → Tree → Type 0
Agree base m a (Leaf (Literal number)) = Unit {0}
Agree base m a (Leaf p) = IsMeant base (m p) (a p)
Agree base m a (Unary o x) = Agree base m a x
Agree base m a (Paren x) = Agree base m a x
Agree base m a (Binary o x y) = Agree base m a x × Agree base m a y

abbrev pub HaveTheirNumbers : (Primary → Meaning) → (Primary → Option ℕ) → Tree → Type 0
HaveTheirNumbers m a (Leaf (Literal number)) = Unit {0}
HaveTheirNumbers m a (Leaf p) = HasItsNumber (m p) (a p)
HaveTheirNumbers m a (Unary o x) = HaveTheirNumbers m a x
HaveTheirNumbers m a (Paren x) = HaveTheirNumbers m a x
HaveTheirNumbers m a (Binary o x y) = HaveTheirNumbers m a x × HaveTheirNumbers m a y

-- the number of a name by its address: a constant has its own
abbrev pub number_meant : Meaning → Option ℕ → Option ℕ
number_meant (Known n) address = Some n
number_meant (InSection section offset) address = address
number_meant Open address = address
number_meant (Refused code) address = address

abbrev pub numbers : (Primary → Meaning) → (Primary → Option ℕ) → Primary → Option ℕ
numbers m a p = number_meant (m p) (a p)

-- every name of an expression means a constant
abbrev pub IsConstant : Meaning → Type 0
IsConstant (Known n) = Unit {0}
IsConstant (InSection section offset) = ⊥
IsConstant Open = ⊥
IsConstant (Refused code) = ⊥

abbrev pub AreConstants : (Primary → Meaning) → Tree → Type 0
AreConstants m (Leaf (Literal number)) = Unit {0}
AreConstants m (Leaf p) = IsConstant (m p)
AreConstants m (Unary o x) = AreConstants m x
AreConstants m (Paren x) = AreConstants m x
AreConstants m (Binary o x y) = AreConstants m x × AreConstants m y

-- every literal of an expression and every number of a name fits 64 bits
abbrev pub AreSmall : (Primary → Option ℕ) → Tree → Type 0
AreSmall a (Leaf (Literal number)) = number < 2 ^ 64
AreSmall a (Leaf p) = IfSome (a p) (λ x. x < 2 ^ 64)
AreSmall a (Unary o x) = AreSmall a x
AreSmall a (Paren x) = AreSmall a x
AreSmall a (Binary o x y) = AreSmall a x × AreSmall a y

-- a value that is not a fault
abbrev pub HasForm : Value → Type 0
HasForm (Constant number) = Unit {0}
HasForm (Symbolic symbol at plus) = Unit {0}
HasForm (Difference symbol minus plus) = Unit {0}
HasForm (Faulty code) = ⊥
