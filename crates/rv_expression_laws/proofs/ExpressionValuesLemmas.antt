-- The nodes of an expression, one after the other, give its value, and few values wait at a time.

use Rattle.std.proofs.Common.{◌≡◌, ℕ, suc, ◌+◌, ◌-◌, ◌*◌, ◌≤◌, true, List, [], ◌∷◌, ◌++◌, refl, sym, ◌∙◌, ap, append_assoc, arith}
use Rattle.std.proofs.lemmas.List.{append-nil}
use Rattle.rv_list_laws.proofs.NumbersLemmas.{lt_true}
use Rattle.rv_expression_laws.specs.Expression.{Primary, Tree, Leaf, Unary, Paren, Binary, level_of, IsAt, nesting, deepest, Node, Unary_node, Binary_node, postfix}
use Rattle.rv_expression_laws.specs.Values.{Meaning, Value, value_of, after_nodes, most_values, nodes_fit}
use Rattle.rv_expression_laws.proofs.ExpressionsLemmas.{level_small}

-- the nodes of a tree, and further ones after them
pub values_after : (m : Primary → Meaning) (t : Tree) (ns : List Node) (vs : List Value) → after_nodes m (postfix t ++ ns) vs ≡ after_nodes m ns (value_of m t ∷ vs)
values_after m (Leaf p) ns vs = refl
values_after m (Unary o x) ns vs =
    ap (λ (l : List Node). after_nodes m l vs) (append_assoc (postfix x) (Unary_node o ∷ []) ns)
    ∙ values_after m x (Unary_node o ∷ ns) vs
values_after m (Paren x) ns vs = values_after m x ns vs
values_after m (Binary o x y) ns vs =
    ap (λ (l : List Node). after_nodes m l vs)
    (append_assoc (postfix x) (postfix y ++ Binary_node o ∷ []) ns ∙ ap (λ (l : List Node). postfix x ++ l) (append_assoc (postfix y) (Binary_node o ∷ []) ns))
    ∙ values_after m x (postfix y ++ (Binary_node o ∷ ns)) vs
    ∙ values_after m y (Binary_node o ∷ ns) (value_of m x ∷ vs)

-- the nodes of an expression leave its value alone
pub values_of_postfix : (m : Primary → Meaning) (t : Tree) → after_nodes m (postfix t) [] ≡ value_of m t ∷ []
values_of_postfix m t = ap (λ (l : List Node). after_nodes m l []) (sym (append-nil (postfix t))) ∙ values_after m t [] []

-- how many values a tree of this level may need
fit_after : (t : Tree) (l : ℕ) (ns : List Node) (count : ℕ) → IsAt l t → l ≤ 3 → count + 3 * nesting t + 4 ≤ most_values + l → nodes_fit (postfix t ++ ns) count ≡ nodes_fit ns (count + 1)
fit_after (Leaf p) l ns count at small room = rw (lt_true count 200 (omega (arith, room, small))) refl
fit_after (Unary o x) l ns count at small room =
    ap (λ (k : List Node). nodes_fit k count) (append_assoc (postfix x) (Unary_node o ∷ []) ns)
    ∙ fit_after x 3 (Unary_node o ∷ ns) count at (omega arith) (omega (arith, room, small))
    ∙ rw (lt_true 0 (count + 1) (omega arith)) refl
fit_after (Paren x) l ns count at small room = fit_after x 0 ns count at (omega arith) (omega (arith, room, small))
fit_after (Binary o x y) l ns count at small room =
    ap (λ (k : List Node). nodes_fit k count)
    (append_assoc (postfix x) (postfix y ++ Binary_node o ∷ []) ns ∙ ap (λ (k : List Node). postfix x ++ k) (append_assoc (postfix y) (Binary_node o ∷ []) ns))
    ∙ fit_after x (level_of o) (postfix y ++ (Binary_node o ∷ ns)) count at.1 (omega (arith, level_small o)) (omega (arith, room, at.0))
    ∙ fit_after y (suc (level_of o)) (Binary_node o ∷ ns) (count + 1) at.2 (omega (arith, level_small o)) (omega (arith, room, at.0))
    ∙ rw (lt_true 1 (count + 1 + 1) (omega arith), back count) refl
  where
    back : (n : ℕ) → n + 1 + 1 - 1 ≡ n + 1
    back n = omega arith

-- an expression that is read never needs more than there is room for
pub postfix_fits : (t : Tree) → IsAt 0 t → nesting t ≤ deepest → nodes_fit (postfix t) 0 ≡ true
postfix_fits t at within =
    ap (λ (l : List Node). nodes_fit l 0) (sym (append-nil (postfix t))) ∙ fit_after t 0 [] 0 at (omega arith) (omega (arith, within))
