-- The expression that nodes stand for.

use Rattle.std.proofs.Common.{◌≡◌, ◌<◌, true, List, [], ◌∷◌, ◌++◌, length, map, refl, sym, ◌∙◌, ap, append_assoc, arith}
use Rattle.std.proofs.lemmas.List.{append-nil}
use Rattle.std.proofs.lemmas.Bool.{and_parts, ltb-true}
use Rattle.rv_expression_laws.specs.Expression.{Primary, Tree, Leaf, Unary, Paren, Binary, Node, Primary_node, Unary_node, Binary_node, postfix, built_by, built, last_built, tree_of, bare}
use Rattle.rv_expression_laws.specs.Values.{Meaning, Value, value_of, unary_value, both, after_node, after_nodes, node_fits, count_after, nodes_fit}

-- the nodes of a tree build it without its parentheses
built_after : (t : Tree) (ns : List Node) (xs : List Tree) → built (postfix t ++ ns) xs ≡ built ns (bare t ∷ xs)
built_after (Leaf p) ns xs = refl
built_after (Unary o x) ns xs =
    ap (λ (l : List Node). built l xs) (append_assoc (postfix x) (Unary_node o ∷ []) ns)
    ∙ built_after x (Unary_node o ∷ ns) xs
built_after (Paren x) ns xs = built_after x ns xs
built_after (Binary o x y) ns xs =
    ap (λ (l : List Node). built l xs)
    (append_assoc (postfix x) (postfix y ++ Binary_node o ∷ []) ns ∙ ap (λ (l : List Node). postfix x ++ l) (append_assoc (postfix y) (Binary_node o ∷ []) ns))
    ∙ built_after x (postfix y ++ (Binary_node o ∷ ns)) xs
    ∙ built_after y (Binary_node o ∷ ns) (bare x ∷ xs)

pub postfix_tree : (t : Tree) → tree_of (postfix t) ≡ bare t
unfolding tree_of
postfix_tree t = ap last_built (ap (λ (l : List Node). built l []) (sym (append-nil (postfix t))) ∙ built_after t [] [])

-- a primary alone
pub lone_tree : (p : Primary) → tree_of (Primary_node p ∷ []) ≡ Leaf p
unfolding tree_of
lone_tree p = refl

-- parentheses have no value of their own
pub bare_value : (m : Primary → Meaning) (t : Tree) → value_of m (bare t) ≡ value_of m t
bare_value m (Leaf p) = refl
bare_value m (Unary o x) = ap (unary_value o) (bare_value m x)
bare_value m (Paren x) = bare_value m x
bare_value m (Binary o x y) = ap (λ (v : Value). both o v (value_of m (bare y))) (bare_value m x) ∙ ap (both o (value_of m x)) (bare_value m y)

-- a node that fits finds its operands among the expressions
one_built : (m : Primary → Meaning) (n : Node) (xs : List Tree) → node_fits n (length xs) ≡ true
    → (after_node m n (map (value_of m) xs) ≡ map (value_of m) (built_by n xs)) × (length (built_by n xs) ≡ count_after n (length xs))
one_built m (Primary_node p) xs fits = (refl, omega arith)
one_built m (Unary_node o) [] fits = absurd (cc)
one_built m (Unary_node o) (x ∷ xs) fits = (refl, refl)
one_built m (Binary_node o) [] fits = absurd (cc)
one_built m (Binary_node o) (y ∷ []) fits = absurd (cc)
one_built m (Binary_node o) (y ∷ x ∷ xs) fits = (refl, omega arith)

values_built : (m : Primary → Meaning) (ns : List Node) (xs : List Tree) → nodes_fit ns (length xs) ≡ true
    → (after_nodes m ns (map (value_of m) xs) ≡ map (value_of m) (built ns xs)) × (0 < length (built ns xs))
values_built m [] xs fits = (refl, ltb-true 0 (length xs) fits)
values_built m (n ∷ ns) xs fits =
    let f = and_parts (node_fits n (length xs)) (nodes_fit ns (count_after n (length xs))) fits in
    let one = one_built m n xs f.0 in
    let rest = values_built m ns (built_by n xs) (ap (nodes_fit ns) one.1 ∙ f.1) in
    (ap (after_nodes m ns) one.0 ∙ rest.0, rest.1)

first_value : (m : Primary → Meaning) (xs : List Tree) → 0 < length xs → (others : List Value) × (map (value_of m) xs ≡ value_of m (last_built xs) ∷ others)
first_value m [] some = absurd (omega (arith, some))
first_value m (x ∷ xs) some = (map (value_of m) xs, refl)

-- nodes that fit leave the value of their expression
pub nodes_value : (m : Primary → Meaning) (ns : List Node) → nodes_fit ns 0 ≡ true → (others : List Value) × (after_nodes m ns [] ≡ value_of m (tree_of ns) ∷ others)
unfolding tree_of
nodes_value m ns fits =
    let all = values_built m ns [] fits in
    let f = first_value m (built ns []) all.1 in
    (f.0, all.0 ∙ f.1)
