-- Nodes and frames as the code holds them.

use Rattle.std.proofs.Common.{◌≡◌, ℕ, suc, ◌+◌, ◌==◌, Bool, true, false, cond, List, [], ◌∷◌, ◌++◌, length, map, reverse, refl, ◌∙◌, ap, arith}
use Rattle.std.specs.List.{count_by}
use Rattle.std.proofs.lemmas.List.{map-append, reverse-append}
use Rattle.std.proofs.lemmas.List.Recursion.{is_count_by}
use Rattle.std.proofs.lemmas.Bool.{eqb-true}
use Rattle.rv_expression_laws.specs.Expression as expression
use Rattle.rv_expression_laws.specs.ExpressionAt as reading
use Rattle.rv_expression_laws.specs.declared.operator.Frame.{Frame}
use Rattle.rv_expression_laws.specs.ExpressionAt.{depth, nests}
use Rattle.rv_expression.specs.declared.node.Node.{Node}
use Rattle.rv_expression.specs.Nodes.{node_of}
use Rattle.rv_expression.specs.Expr.{stack_of}

pub nodes_push : (items : List Node) (n : Node) → map node_of (items ++ n ∷ []) ≡ map node_of items ++ node_of n ∷ []
nodes_push items n = map-append node_of items (n ∷ [])

pub stack_push : (items : List Frame) (f : Frame) → stack_of (items ++ f ∷ []) ≡ f ∷ stack_of items
unfolding stack_of
stack_push items f = reverse-append items (f ∷ [])

pub stack_none : stack_of [] ≡ []
unfolding stack_of
stack_none = refl

pub stack_some : (items : List Frame) → (length items == 0) ≡ false → (f : Frame) × (fs : List Frame) × (stack_of items ≡ f ∷ fs)
unfolding stack_of
stack_some [] e = absurd (cc)
stack_some (x ∷ xs) e = go (reverse xs) (reverse-append (x ∷ []) xs)
  where
    go : (back : List Frame) → reverse (x ∷ xs) ≡ back ++ x ∷ [] → (f : Frame) × (fs : List Frame) × (reverse (x ∷ xs) ≡ f ∷ fs)
    go [] same = (x, [], same)
    go (f ∷ fs) same = (f, fs ++ x ∷ [], same)

pub end_none : (code : ℕ) (items : List Frame) (ns : List expression.Node) → (length items == 0) ≡ true → reading.end code (stack_of items) ns ≡ reading.Ends ns
end_none code [] ns e = rw stack_none refl
end_none code (x ∷ xs) ns e = absurd (omega (arith, eqb-true (length (x ∷ xs)) 0 e))

pub end_open : (code : ℕ) (items : List Frame) (ns : List expression.Node) → (length items == 0) ≡ false → reading.end code (stack_of items) ns ≡ reading.Fails code
end_open code items ns e = let s = stack_some items e in rw (s.2) refl

-- how many frames of a stack are open
depth_back : (items : List Frame) (f : Frame) → depth (items ++ f ∷ []) ≡ cond (nests f) (1 + depth items) (depth items)
depth_back [] f = go (nests f)
  where
    go : (b : Bool) → cond b 1 0 ≡ cond b (1 + 0) 0
    go true = refl
    go false = refl
depth_back (x ∷ xs) f = go (nests x) (nests f) (depth_back xs f)
  where
    go : (a b : Bool) → depth (xs ++ f ∷ []) ≡ cond b (1 + depth xs) (depth xs)
        → cond a (suc (depth (xs ++ f ∷ []))) (depth (xs ++ f ∷ [])) ≡ cond b (1 + cond a (suc (depth xs)) (depth xs)) (cond a (suc (depth xs)) (depth xs))
    go true true h = omega (arith, h)
    go true false h = omega (arith, h)
    go false true h = h
    go false false h = h

depth_none : depth (stack_of []) ≡ 0
unfolding stack_of
depth_none = refl

depth_turn : (x : Frame) (xs : List Frame) → depth (stack_of (x ∷ xs)) ≡ cond (nests x) (1 + depth (stack_of xs)) (depth (stack_of xs))
unfolding stack_of
depth_turn x xs = ap depth (reverse-append (x ∷ []) xs) ∙ depth_back (reverse xs) x

pub depth_count : (items : List Frame) → depth (stack_of items) ≡ count_by nests items
depth_count items = is_count_by (λ (l : List Frame). depth (stack_of l)) nests depth_none depth_turn items
