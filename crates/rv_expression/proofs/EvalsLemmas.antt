-- The stack of values as the code holds it.

use Rattle.std.proofs.Common.{◌≡◌, ℕ, ◌+◌, ◌<◌, ◌≤◌, true, List, [], ◌∷◌, ◌++◌, length, get_or, drop, map, reverse, refl, sym, ◌∙◌, ap, subst, arith, Result}
use Rattle.std.proofs.lemmas.List.{map-append, reverse-append, at_drop_more, at_drop_all}
use Rattle.std.proofs.lemmas.Bool.{and_parts, ltb-true}
use Rattle.rv_expression_laws.specs.declared.operator.UnaryOperator.{UnaryOperator}
use Rattle.rv_expression_laws.specs.declared.operator.BinaryOperator.{BinaryOperator}
use Rattle.rv_expression_laws.specs.declared.operator.UnaryOperator.TheVariants.{Negate}
use Rattle.rv_expression_laws.specs.Expression.{Primary, Literal, tree_of, Node, Primary_node, Unary_node, Binary_node}
use Rattle.rv_expression_laws.specs.Values.{Meaning, Value, Constant, unary_value, both, meant, primary_value, value_of, after_node, node_fits, count_after, nodes_fit}
use Rattle.rv_expression_laws.proofs.TreesLemmas.{lone_tree}
use Rattle.rv_expression.specs.declared.evaluation.Part.{Part}
use Rattle.rv_expression.specs.declared.node.Symbol.{Symbol}
use Rattle.rv_expression.specs.declared.node.Symbol.TheVariants as symbols
use Rattle.rv_expression.specs.declared.node.Node as code
use Rattle.rv_expression.specs.Nodes.{symbol_of, node_of}
use Rattle.rv_expression.specs.declared.evaluation.Value as code_value
use Rattle.rv_expression.specs.declared.expr.Expr.{Expr}
use Rattle.rv_fault.specs.declared.source_fault.SourceFault.{SourceFault}
use Rattle.rv_expression.specs.Expr.{lone_primary as alone_nodes, expr_of, tree_of_expr}
use Rattle.rv_expression.specs.Eval.{part_value, tops, IsOutcome}

pub tops_push : (items : List Part) (p : Part) → tops (items ++ p ∷ []) ≡ part_value p ∷ tops items
unfolding tops
tops_push items p = ap reverse (map-append part_value items (p ∷ [])) ∙ reverse-append (map part_value items) (part_value p ∷ [])

pub tops_none : tops [] ≡ []
unfolding tops
tops_none = refl

-- one node of those that fit
pub one_fits : (n : Node) (ns : List Node) (count : ℕ) → nodes_fit (n ∷ ns) count ≡ true → node_fits n count ≡ true
one_fits n ns count e = (and_parts (node_fits n count) (nodes_fit ns (count_after n count)) e).0

pub rest_fits : (n : Node) (ns : List Node) (count after : ℕ) → after ≡ count_after n count → nodes_fit (n ∷ ns) count ≡ true → nodes_fit ns after ≡ true
rest_fits n ns count after same e = ap (nodes_fit ns) same ∙ (and_parts (node_fits n count) (nodes_fit ns (count_after n count)) e).1

pub some_left : (count : ℕ) → nodes_fit [] count ≡ true → 0 < count
some_left count e = ltb-true 0 count e

-- the last of a stack
pub last_value : (items front : List Part) (p : Part) (v : Value) (others : List Value) → items ≡ front ++ p ∷ [] → tops items ≡ v ∷ others → part_value p ≡ v
last_value items front p v others split is =
    let same : part_value p ∷ tops front ≡ v ∷ others = sym (tops_push front p) ∙ ap tops (sym split) ∙ is in
    cc

-- what each node does to the stack
pub push_step : (m : Primary → Meaning) (old new : List Part) (w : Part) (p : Primary) → new ≡ old ++ w ∷ [] → part_value w ≡ primary_value m p → tops new ≡ after_node m (Primary_node p) (tops old)
push_step m old new w p e is = ap tops e ∙ tops_push old w ∙ ap (λ (v : Value). v ∷ tops old) is

pub unary_step : (m : Primary → Meaning) (old mid new : List Part) (v w : Part) (o : UnaryOperator) → old ≡ mid ++ v ∷ [] → new ≡ mid ++ w ∷ [] → part_value w ≡ unary_value o (part_value v)
    → tops new ≡ after_node m (Unary_node o) (tops old)
unary_step m old mid new v w o e f is =
    ap tops f ∙ tops_push mid w ∙ ap (λ (x : Value). x ∷ tops mid) is ∙ ap (after_node m (Unary_node o)) (sym (ap tops e ∙ tops_push mid v))

pub binary_step : (m : Primary → Meaning) (old mid low new : List Part) (v w u : Part) (o : BinaryOperator) → old ≡ mid ++ w ∷ [] → mid ≡ low ++ v ∷ [] → new ≡ low ++ u ∷ []
    → part_value u ≡ both o (part_value v) (part_value w) → tops new ≡ after_node m (Binary_node o) (tops old)
binary_step m old mid low new v w u o e f g is =
    ap tops g ∙ tops_push low u ∙ ap (λ (x : Value). x ∷ tops low) is
    ∙ ap (after_node m (Binary_node o)) (sym (ap tops e ∙ tops_push mid w ∙ ap (λ (l : List Value). part_value w ∷ l) (ap tops f ∙ tops_push low v)))

-- a symbol's value is by what it means
pub symbol_value : (m : Primary → Meaning) (s : Symbol) → primary_value m (symbol_of s) ≡ meant (symbol_of s) (m (symbol_of s))
symbol_value m (symbols.Name name) = refl
symbol_value m symbols.Here = refl
symbol_value m (symbols.Reference r) = refl

pub symbol_part : (m : Primary → Meaning) (s : Symbol) (p : Value) (meaning : Meaning) → p ≡ meant (symbol_of s) meaning → meaning ≡ m (symbol_of s) → p ≡ primary_value m (symbol_of s)
symbol_part m s p meaning e f = e ∙ ap (meant (symbol_of s)) f ∙ sym (symbol_value m s)

-- a primary alone
pub lone_value : (m : Primary → Meaning) (p : Primary) → value_of m (tree_of (alone_nodes p)) ≡ primary_value m p
lone_value m p = ap (value_of m) (lone_tree p)

pub lone_outcome : (m : Primary → Meaning) (p : Primary) (e : Expr) (result : Result code_value.Value SourceFault) (line : ℕ) (part : Value) → expr_of e ≡ alone_nodes p
    → part ≡ primary_value m p → IsOutcome result line part → IsOutcome result line (value_of m (tree_of_expr e))
lone_outcome m p e result line part is same h =
    subst (IsOutcome result line) (same ∙ sym (lone_value m p) ∙ ap (λ (ns : List Node). value_of m (tree_of ns)) (sym is)) h

-- the next of the nodes left, where they are lent
pub next_node : (xs ys : List code.Node) (i : ℕ) (d : code.Node) → ys ≡ xs → i < length ys → map node_of (drop i xs) ≡ node_of (get_or ys i d) ∷ map node_of (drop (i + 1) xs)
next_node xs ys i d e lt =
    ap (λ (l : List code.Node). map node_of (drop i l)) (sym e) ∙ at_drop_more (map node_of) ys i d lt
    ∙ ap (λ (l : List code.Node). node_of (get_or ys i d) ∷ map node_of (drop (i + 1) l)) e

pub no_node : (xs ys : List code.Node) (i : ℕ) → ys ≡ xs → length ys ≤ i → map node_of (drop i xs) ≡ []
no_node xs ys i e le = at_drop_all (map node_of) xs i (omega (arith, ap length e, le))

pub next_fits : (xs ys : List code.Node) (i : ℕ) (d : code.Node) (count : ℕ) → ys ≡ xs → i < length ys → nodes_fit (map node_of (drop i xs)) count ≡ true
    → node_fits (node_of (get_or ys i d)) count ≡ true
next_fits xs ys i d count e lt f =
    one_fits (node_of (get_or ys i d)) (map node_of (drop (i + 1) xs)) count (ap (λ (l : List Node). nodes_fit l count) (sym (next_node xs ys i d e lt)) ∙ f)

pub later_fit : (xs ys : List code.Node) (i : ℕ) (d : code.Node) (count after : ℕ) → ys ≡ xs → i < length ys → after ≡ count_after (node_of (get_or ys i d)) count
    → nodes_fit (map node_of (drop i xs)) count ≡ true → nodes_fit (map node_of (drop (i + 1) xs)) after ≡ true
later_fit xs ys i d count after e lt same f =
    rest_fits (node_of (get_or ys i d)) (map node_of (drop (i + 1) xs)) count after same (ap (λ (l : List Node). nodes_fit l count) (sym (next_node xs ys i d e lt)) ∙ f)

pub last_fits : (xs ys : List code.Node) (i count : ℕ) → ys ≡ xs → length ys ≤ i → nodes_fit (map node_of (drop i xs)) count ≡ true → 0 < count
last_fits xs ys i count e le f = some_left count (ap (λ (l : List Node). nodes_fit l count) (sym (no_node xs ys i e le)) ∙ f)

-- the negative of a number, and two primaries under their operator
pub negative_value : (m : Primary → Meaning) (n : ℕ) → value_of m (tree_of (Primary_node (Literal n) ∷ Unary_node Negate ∷ [])) ≡ unary_value Negate (Constant n)
unfolding tree_of
negative_value m n = refl

pub pair_value : (m : Primary → Meaning) (p q : Primary) (o : BinaryOperator)
    → value_of m (tree_of (Primary_node p ∷ Primary_node q ∷ Binary_node o ∷ [])) ≡ both o (primary_value m p) (primary_value m q)
unfolding tree_of
pair_value m p q o = refl

pub pair_outcome : (m : Primary → Meaning) (p q : Primary) (o : BinaryOperator) (e : Expr) (result : Result code_value.Value SourceFault) (line : ℕ) (part : Value)
    → expr_of e ≡ Primary_node p ∷ Primary_node q ∷ Binary_node o ∷ [] → part ≡ both o (primary_value m p) (primary_value m q) → IsOutcome result line part
    → IsOutcome result line (value_of m (tree_of_expr e))
pair_outcome m p q o e result line part is same h =
    subst (IsOutcome result line) (same ∙ sym (pair_value m p q o) ∙ ap (λ (ns : List Node). value_of m (tree_of ns)) (sym is)) h
