-- Expressions of numbers alone.

use Rattle.std.proofs.Common.{◌≡◌, Bool, true, false, ◌&&◌, List, [], ◌∷◌, ◌++◌, Ok, refl, sym, ◌∙◌, ap}
use Rattle.rv_expression_laws.specs.Lexing.{Token}
use Rattle.rv_expression_laws.specs.Expression.{Tree, Leaf, Unary, Paren, Binary, Literal, Node, postfix, tree_of, bare}
use Rattle.rv_expression_laws.specs.ExpressionAt.{expression_at}
use Rattle.rv_expression_laws.proofs.ExpressionWrongLemmas.{end_at, whole_there}
use Rattle.rv_expression_laws.proofs.TreesLemmas.{postfix_tree}
use Rattle.rv_expression.specs.Nodes.{is_number_node, are_numbers}
use Rattle.rv_parse_laws.specs.Syntax.{is_register, is_of_numbers}

all_append : (ns ms : List Node) → are_numbers (ns ++ ms) ≡ (are_numbers ns && are_numbers ms)
all_append [] ms = refl
all_append (n ∷ ns) ms = go (is_number_node n) (all_append ns ms)
  where
    go : (b : Bool) → are_numbers (ns ++ ms) ≡ (are_numbers ns && are_numbers ms) → (b && are_numbers (ns ++ ms)) ≡ ((b && are_numbers ns) && are_numbers ms)
    go true ih = ih
    go false ih = refl

and_true : (b : Bool) → (b && true) ≡ b
and_true true = refl
and_true false = refl

numbers_of : (tree : Tree) → are_numbers (postfix tree) ≡ is_of_numbers tree
numbers_of (Leaf (Literal number)) = refl
numbers_of (Leaf _) = refl
numbers_of (Unary o x) = all_append (postfix x) _ ∙ and_true (are_numbers (postfix x)) ∙ numbers_of x
numbers_of (Paren x) = numbers_of x
numbers_of (Binary o x y) =
    all_append (postfix x) _ ∙ ap (λ b. are_numbers (postfix x) && b) (all_append (postfix y) _ ∙ and_true (are_numbers (postfix y)))
    ∙ ap (λ b. b && are_numbers (postfix y)) (numbers_of x) ∙ ap (λ b. is_of_numbers x && b) (numbers_of y)

number_bare : (tree : Tree) → is_of_numbers (bare tree) ≡ is_of_numbers tree
number_bare (Leaf (Literal number)) = refl
number_bare (Leaf _) = refl
number_bare (Unary o x) = number_bare x
number_bare (Paren x) = number_bare x
number_bare (Binary o x y) = ap (λ b. b && is_of_numbers (bare y)) (number_bare x) ∙ ap (λ b. is_of_numbers x && b) (number_bare y)

-- the nodes that are read have no symbol where their expression has none
pub read_numbers : (ts : List Token) (ns : List Node) (rest : List Token) → expression_at is_register ts ≡ Ok (ns, rest) → are_numbers ns ≡ is_of_numbers (tree_of ns)
read_numbers ts ns rest e =
    let f = end_at is_register ts ns rest e in
    let w = whole_there is_register f.0 f.1 ns f.5 in
    ap are_numbers w.4 ∙ numbers_of w.0 ∙ sym (number_bare w.0) ∙ ap is_of_numbers (sym (postfix_tree w.0)) ∙ ap (λ ms. is_of_numbers (tree_of ms)) (sym w.4)
