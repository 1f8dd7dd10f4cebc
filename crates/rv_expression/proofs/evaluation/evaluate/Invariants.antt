-- The nodes left make of the stack what all of them make of none.
use Rattle.std.proofs.Common.{◌≡◌, ◌≤◌, true, [], length, drop, map}
use Rattle.rv_expression_laws.specs.Expression.{Primary}
use Rattle.rv_expression_laws.specs.Values as values
use Rattle.rv_expression.specs.Nodes.{node_of, nodes_of}
use Rattle.rv_expression.specs.Eval.{tops, Means}
use Rattle.rv_expression.proofs.evaluation.evaluate.Given as goal

abbrev pub invariant-loop-node : goal.invariant-loop-node
invariant-loop-node g l = record {
  kept : (m : Primary → values.Meaning) → Means (goal.F-post g l.names) m
      → values.after_nodes m (nodes_of l.nodes) [] ≡ values.after_nodes m (map node_of (drop l.node-index l.nodes.rest.items)) (tops l.stack.items);
  fits : values.nodes_fit (map node_of (drop l.node-index l.nodes.rest.items)) (length l.stack.items) ≡ true;
  room : length l.stack.items ≤ values.most_values;
}
