-- The value of an expression: 64-bit two's complement that wraps, with names that may stay open
-- (GNU as, "Expressions").

use Rattle.std.specs.Prelude.{ℕ, ◌+◌, ◌-◌, ◌*◌, ◌/◌, ◌%◌, ◌^◌, min, Bool, ◌&&◌, ◌==◌, nat_lt, List, [], ◌∷◌, bit_and, bit_or, bit_xor, int_rem, if◌then◌else◌}
use Rattle.std.specs.Int.{w64, cast_signed, cast_unsigned, int_wrapping_div}
use Rattle.rv_expression_laws.specs.declared.operator.UnaryOperator.{UnaryOperator}
use Rattle.rv_expression_laws.specs.declared.operator.UnaryOperator.TheVariants.{Negate, Complement, Keep}
use Rattle.rv_expression_laws.specs.declared.operator.BinaryOperator.{BinaryOperator}
use Rattle.rv_expression_laws.specs.declared.operator.BinaryOperator.TheVariants.{Multiply, Divide, Remainder, ShiftLeft, ShiftRight, Or, And, ExclusiveOr, Add, Subtract}
use Rattle.rv_expression_laws.specs.Codes.{division_by_zero, shift_too_large, not_constant}
use Rattle.rv_expression_laws.specs.Expression.{Primary, Literal, Tree, Leaf, Unary, Paren, Binary, Node, Primary_node, Unary_node, Binary_node}

-- what a name, `.` or a reference means where it stands
pub data Meaning : Type 0 where
  -- a number below 2 ^ 64
  Known : (number : ℕ) → Meaning
  -- an offset in a section whose statements keep their distances
  InSection : (section offset : ℕ) → Meaning
  -- an address that is not known yet
  Open : Meaning
  -- no meaning, with its fault's code: `undefined_local` or `not_constant`
  Refused : (code : ℕ) → Meaning

-- a value: a constant below 2 ^ 64, alone, with a symbol (and what that means), or with a
-- difference of two; or the code of a fault
pub data Value : Type 0 where
  Constant : (number : ℕ) → Value
  Symbolic : (symbol : Primary) (at : Meaning) (plus : ℕ) → Value
  Difference : (symbol minus : Primary) (plus : ℕ) → Value
  Faulty : (code : ℕ) → Value

abbrev pub add : ℕ → ℕ → ℕ
add a b = (a + b) % 2 ^ 64

abbrev pub subtract : ℕ → ℕ → ℕ
subtract a b = (a + (2 ^ 64 - b)) % 2 ^ 64

-- an operator on two constants: `/` and `%` truncate and take signed numbers, `>>` is logical
abbrev pub arithmetic : BinaryOperator → ℕ → ℕ → Value
arithmetic Multiply a b = Constant ((a * b) % 2 ^ 64)
arithmetic Divide a b =
    if b == 0
    then Faulty division_by_zero
    else Constant
    (cast_unsigned w64 (int_wrapping_div w64 (cast_signed w64 a) (cast_signed w64 b)))
arithmetic Remainder a b =
    if b == 0
    then Faulty division_by_zero
    else Constant (cast_unsigned w64 (int_rem (cast_signed w64 a) (cast_signed w64 b)))
arithmetic ShiftLeft a b =
    if nat_lt b 64 then Constant ((a * 2 ^ b) % 2 ^ 64) else Faulty shift_too_large
arithmetic ShiftRight a b = if nat_lt b 64 then Constant (a / 2 ^ b) else Faulty shift_too_large
arithmetic Or a b = Constant (bit_or a b)
arithmetic And a b = Constant (bit_and a b)
arithmetic ExclusiveOr a b = Constant (bit_xor a b)
arithmetic Add a b = Constant (add a b)
arithmetic Subtract a b = Constant (subtract a b)

-- the fault of an operator by its right operand, where the left one is no constant
abbrev pub operand_fault : BinaryOperator → ℕ → ℕ
operand_fault Divide b = if b == 0 then division_by_zero else not_constant
operand_fault Remainder b = if b == 0 then division_by_zero else not_constant
operand_fault ShiftLeft b = if nat_lt b 64 then not_constant else shift_too_large
operand_fault ShiftRight b = if nat_lt b 64 then not_constant else shift_too_large
operand_fault _ b = not_constant

-- an operator on values of which one is no constant; of several faults the lowest counts
abbrev pub refused : BinaryOperator → Value → Value → Value
refused o (Faulty c) (Faulty d) = Faulty (min c d)
refused o (Faulty c) (Constant b) = Faulty (min c (operand_fault o b))
refused o (Faulty c) _ = Faulty c
refused o _ (Faulty d) = Faulty d
refused o _ (Constant b) = Faulty (operand_fault o b)
refused o _ _ = Faulty not_constant

-- the difference of two symbols in one section is a constant
abbrev pub apart : Meaning → Meaning → Primary → Primary → ℕ → Value
apart (InSection s a) (InSection t b) p q plus =
    if s == t then Constant (add plus (subtract a b)) else Difference p q plus
apart _ _ p q plus = Difference p q plus

abbrev pub sum : Value → Value → Value
sum (Constant a) (Constant b) = Constant (add a b)
sum (Constant a) (Symbolic p at k) = Symbolic p at (add k a)
sum (Constant a) (Difference p q k) = Difference p q (add k a)
sum (Symbolic p at k) (Constant b) = Symbolic p at (add k b)
sum (Difference p q k) (Constant b) = Difference p q (add k b)
sum v w = refused Add v w

abbrev pub difference : Value → Value → Value
difference (Constant a) (Constant b) = Constant (subtract a b)
difference (Symbolic p at k) (Constant b) = Symbolic p at (subtract k b)
difference (Difference p q k) (Constant b) = Difference p q (subtract k b)
difference (Symbolic p s k) (Symbolic q t j) = apart s t p q (subtract k j)
difference v w = refused Subtract v w

-- the other operators take constants alone
abbrev pub constants_alone : BinaryOperator → Value → Value → Value
constants_alone o (Constant a) (Constant b) = arithmetic o a b
constants_alone o v w = refused o v w

abbrev pub both : BinaryOperator → Value → Value → Value
both Add v w = sum v w
both Subtract v w = difference v w
both o v w = constants_alone o v w

abbrev pub unary_value : UnaryOperator → Value → Value
unary_value Keep v = v
unary_value Negate (Constant a) = Constant (subtract 0 a)
unary_value Complement (Constant a) = Constant (2 ^ 64 - 1 - a)
unary_value o (Faulty c) = Faulty c
unary_value o v = Faulty not_constant

abbrev pub meant : Primary → Meaning → Value
meant p (Known n) = Constant n
meant p (Refused code) = Faulty code
meant p at = Symbolic p at 0

abbrev pub primary_value : (Primary → Meaning) → Primary → Value
primary_value m (Literal number) = Constant number
primary_value m p = meant p (m p)

-- the value of an expression by what its names mean; every part counts
abbrev pub value_of : (Primary → Meaning) → Tree → Value
value_of m (Leaf p) = primary_value m p
value_of m (Unary o x) = unary_value o (value_of m x)
value_of m (Paren x) = value_of m x
value_of m (Binary o x y) = both o (value_of m x) (value_of m y)

-- the values after a node, the last one first
abbrev pub after_node : (Primary → Meaning) → Node → List Value → List Value
after_node m (Primary_node p) vs = primary_value m p ∷ vs
after_node m (Unary_node o) [] = []
after_node m (Unary_node o) (v ∷ vs) = unary_value o v ∷ vs
after_node m (Binary_node o) [] = []
after_node m (Binary_node o) (w ∷ []) = []
after_node m (Binary_node o) (w ∷ v ∷ vs) = both o v w ∷ vs

abbrev pub after_nodes : (Primary → Meaning) → List Node → List Value → List Value
after_nodes m [] vs = vs
after_nodes m (n ∷ ns) vs = after_nodes m ns (after_node m n vs)

-- the most values that wait for an operator, in an expression that is read
abbrev pub most_values : ℕ
most_values = 200

-- a node finds its operands among so many values, and room for its own
abbrev pub node_fits : Node → ℕ → Bool
node_fits (Primary_node p) count = nat_lt count most_values
node_fits (Unary_node o) count = nat_lt 0 count
node_fits (Binary_node o) count = nat_lt 1 count

-- how many values there are after a node
abbrev pub count_after : Node → ℕ → ℕ
count_after (Primary_node p) count = count + 1
count_after (Unary_node o) count = count
count_after (Binary_node o) count = count - 1

-- each node finds its operands and room, and a value is left
abbrev pub nodes_fit : List Node → ℕ → Bool
nodes_fit [] count = nat_lt 0 count
nodes_fit (n ∷ ns) count = node_fits n count && nodes_fit ns (count_after n count)
