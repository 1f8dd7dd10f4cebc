-- Expressions: their trees, how tokens spell them, and their postfix form (GNU as, "Expressions";
-- Assembly Programmer's Manual).

use Rattle.std.specs.Prelude.{◌≡◌, ℕ, suc, ◌≤◌, max, Bool, nat_le, List, [], ◌∷◌, ◌++◌, length, codes, ◌⊎◌, if◌then◌else◌}
use Rattle.std.specs.Str.{bytes_eq}
use Rattle.rv_expression_laws.specs.declared.punct.Punct.{Punct}
use Rattle.rv_expression_laws.specs.declared.punct.Punct.TheVariants as puncts
use Rattle.rv_expression_laws.specs.declared.operator.UnaryOperator.{UnaryOperator}
use Rattle.rv_expression_laws.specs.declared.operator.UnaryOperator.TheVariants.{Negate, Complement, Keep}
use Rattle.rv_expression_laws.specs.declared.operator.BinaryOperator.{BinaryOperator}
use Rattle.rv_expression_laws.specs.declared.operator.BinaryOperator.TheVariants.{Multiply, Divide, Remainder, ShiftLeft, ShiftRight, Or, And, ExclusiveOr, Add, Subtract}
use Rattle.rv_expression_laws.specs.Grammar.{Kind, Punctuation, Name, Number, Reference as ReferenceToken, Bad_word, Text, Character, Bad_byte, Bad_token}
use Rattle.rv_expression_laws.specs.Lexing.{Token}
use Rattle.rv_expression_laws.specs.Codes.{bad_byte, bad_token, bad_operands, unsupported_here, limit}
use Rattle.rv_expression_laws.specs.SyntaxError.{longest_name}

-- what stands in an expression without an operator
pub data Primary : Type 0 where
  Literal : (number : ℕ) → Primary
  Symbol : (name : List ℕ) → Primary
  -- `.`, the address of the statement
  Here : Primary
  -- `1b` or `1f`, by its digits
  Reference : (digits : List ℕ) (forward : Bool) → Primary

-- an expression with its parentheses
pub data Tree : Type 0 where
  Leaf : (primary : Primary) → Tree
  Unary : (operator : UnaryOperator) (operand : Tree) → Tree
  Paren : (inside : Tree) → Tree
  Binary : (operator : BinaryOperator) (left right : Tree) → Tree

-- how tight an operator binds: `* / % << >>`, then `| & ^`, then `+ -`
abbrev pub level_of : BinaryOperator → ℕ
level_of Multiply = 2
level_of Divide = 2
level_of Remainder = 2
level_of ShiftLeft = 2
level_of ShiftRight = 2
level_of Or = 1
level_of And = 1
level_of ExclusiveOr = 1
level_of Add = 0
level_of Subtract = 0

-- what a token is where an operand is wanted; a token that is none has the code of its fault
pub data Begin : Type 0 where
  A_primary : (primary : Primary) → Begin
  A_prefix : (operator : UnaryOperator) → Begin
  An_opening : Begin
  No_operand : (code : ℕ) → Begin

-- a name: `.`, a symbol, or no operand where it spells a register or is too long
abbrev pub named_operand : (List ℕ → Bool) → List ℕ → Begin
named_operand is_register name =
    if is_register name then No_operand bad_operands else
    if bytes_eq name (codes ".") then A_primary Here else
    if nat_le (length name) longest_name then A_primary (Symbol name) else No_operand limit

abbrev pub punct_begins : Punct → Begin
punct_begins puncts.Minus = A_prefix Negate
punct_begins puncts.Tilde = A_prefix Complement
punct_begins puncts.Plus = A_prefix Keep
punct_begins puncts.Open = An_opening
punct_begins puncts.DoubleSlash = No_operand unsupported_here
punct_begins _ = No_operand bad_operands

abbrev pub begins : (List ℕ → Bool) → Kind → Begin
begins is_register (Number word number) = A_primary (Literal number)
begins is_register (Character byte) = A_primary (Literal byte)
begins is_register (Name name) = named_operand is_register name
begins is_register (ReferenceToken digits forward) = A_primary (Reference digits forward)
begins is_register (Punctuation punct) = punct_begins punct
begins is_register (Text bytes) = No_operand unsupported_here
begins is_register Bad_byte = No_operand bad_byte
begins is_register Bad_token = No_operand bad_token
begins is_register (Bad_word word) = No_operand bad_token
begins is_register _ = No_operand bad_operands

-- what a token is after an operand
pub data Follow : Type 0 where
  An_operator : (operator : BinaryOperator) → Follow
  A_closing : Follow
  -- a comparison, which the language leaves out
  A_comparison : Follow
  Nothing_more : Follow

abbrev pub punct_follows : Punct → Follow
punct_follows puncts.Star = An_operator Multiply
punct_follows puncts.Slash = An_operator Divide
punct_follows puncts.Percent = An_operator Remainder
punct_follows puncts.ShiftLeft = An_operator ShiftLeft
punct_follows puncts.ShiftRight = An_operator ShiftRight
punct_follows puncts.Bar = An_operator Or
punct_follows puncts.Ampersand = An_operator And
punct_follows puncts.Caret = An_operator ExclusiveOr
punct_follows puncts.Plus = An_operator Add
punct_follows puncts.Minus = An_operator Subtract
punct_follows puncts.Close = A_closing
punct_follows puncts.Equal = A_comparison
punct_follows puncts.NotEqual = A_comparison
punct_follows puncts.LessGreater = A_comparison
punct_follows puncts.Less = A_comparison
punct_follows puncts.Greater = A_comparison
punct_follows puncts.LessEqual = A_comparison
punct_follows puncts.GreaterEqual = A_comparison
punct_follows _ = Nothing_more

abbrev pub follows : Kind → Follow
follows (Punctuation punct) = punct_follows punct
follows _ = Nothing_more

-- the tokens spell the tree
abbrev pub SpellsTree : (List ℕ → Bool) → Tree → List Token → Type 0
SpellsTree is_register (Leaf p) ts =
    (t : Token) × (ts ≡ t ∷ []) × (begins is_register t.kind ≡ A_primary p)
SpellsTree is_register (Unary o x) ts =
    (t : Token) × (us : List Token) × (ts ≡ t ∷ us) × (begins is_register t.kind ≡ A_prefix o)
    × SpellsTree is_register x us
SpellsTree is_register (Paren x) ts =
    (t u : Token) × (us : List Token) × (ts ≡ t ∷ (us ++ u ∷ []))
    × (begins is_register t.kind ≡ An_opening) × (follows u.kind ≡ A_closing)
    × SpellsTree is_register x us
SpellsTree is_register (Binary o x y) ts =
    (us vs : List Token) × (t : Token) × (ts ≡ us ++ t ∷ vs) × (follows t.kind ≡ An_operator o)
    × SpellsTree is_register x us × SpellsTree is_register y vs

-- where an operand of this level may stand: its operators bind as tight or tighter, the left
-- operand's as tight or tighter than it, the right operand's tighter; an operator of one operand
-- takes no other
abbrev pub IsAt : ℕ → Tree → Type 0
IsAt level (Leaf p) = Unit {0}
IsAt level (Unary o x) = IsAt 3 x
IsAt level (Paren x) = IsAt 0 x
IsAt level (Binary o x y) = (level ≤ level_of o) × IsAt (level_of o) x × IsAt (suc (level_of o)) y

-- how many parentheses and operators of one operand stand in one another
abbrev pub nesting : Tree → ℕ
nesting (Leaf p) = 0
nesting (Unary o x) = suc (nesting x)
nesting (Paren x) = suc (nesting x)
nesting (Binary o x y) = max (nesting x) (nesting y)

-- the deepest nesting that is read
abbrev pub deepest : ℕ
deepest = 64

-- a part of an expression in postfix form, where parentheses are not needed
pub data Node : Type 0 where
  Primary_node : (primary : Primary) → Node
  Unary_node : (operator : UnaryOperator) → Node
  Binary_node : (operator : BinaryOperator) → Node

-- the operands before their operator
abbrev pub postfix : Tree → List Node
postfix (Leaf p) = Primary_node p ∷ []
postfix (Unary o x) = postfix x ++ Unary_node o ∷ []
postfix (Paren x) = postfix x
postfix (Binary o x y) = postfix x ++ (postfix y ++ Binary_node o ∷ [])

-- tokens that an expression does not go on with
abbrev pub EndsBefore : List Token → Type 0
EndsBefore rest =
    (t : Token) × (us : List Token) × (rest ≡ t ∷ us)
    × ((follows t.kind ≡ Nothing_more) ⊎ (follows t.kind ≡ A_closing))

-- the tokens are this expression, and then the rest, which does not belong to it
pub record ReadsTree (is_register : List ℕ → Bool) (ts : List Token) (tree : Tree)
    (rest : List Token) : Type 0 where
  pub tokens : List Token
  pub whole : ts ≡ tokens ++ rest
  pub spelled : SpellsTree is_register tree tokens
  pub ordered : IsAt 0 tree
  pub within : nesting tree ≤ deepest
  pub ends : EndsBefore rest

-- the expressions after a node, the last one first; nothing changes where an operand is missing
abbrev pub built_by : Node → List Tree → List Tree
built_by (Primary_node p) xs = Leaf p ∷ xs
built_by (Unary_node o) [] = []
built_by (Unary_node o) (x ∷ xs) = Unary o x ∷ xs
built_by (Binary_node o) [] = []
built_by (Binary_node o) (y ∷ []) = y ∷ []
built_by (Binary_node o) (y ∷ x ∷ xs) = Binary o x y ∷ xs

-- the expressions after nodes
abbrev pub built : List Node → List Tree → List Tree
built [] xs = xs
built (n ∷ ns) xs = built ns (built_by n xs)

abbrev pub last_built : List Tree → Tree
last_built [] = Leaf (Literal 0)
last_built (x ∷ xs) = x

-- the expression that nodes in postfix form stand for; it has no parentheses
unfoldable pub tree_of : List Node → Tree
tree_of ns = last_built (built ns [])

-- an expression without its parentheses
abbrev pub bare : Tree → Tree
bare (Leaf p) = Leaf p
bare (Unary o x) = Unary o (bare x)
bare (Paren x) = bare x
bare (Binary o x y) = Binary o (bare x) (bare y)
