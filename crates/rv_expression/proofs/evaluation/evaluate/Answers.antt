-- Node by node.
use Rattle.std.proofs.Common.{◌∙◌, ◌+◌, refl, sym, ap, map, drop, length, List}
use Rattle.rv_expression_laws.specs.Values as values
use Rattle.rv_expression_laws.specs.Expression as expression
use Rattle.rv_expression.specs.declared.node.Node.{Node}
use Rattle.rv_expression_laws.proofs.TreesLemmas.{nodes_value}
use Rattle.rv_expression.specs.Nodes.{node_of, nodes_of}
use Rattle.rv_expression.specs.Eval.{tops}
use Rattle.rv_expression.proofs.EvalsLemmas.{tops_none, rest_fits, last_value, next_node, no_node, next_fits, later_fit, last_fits}
use Rattle.rv_expression.proofs.evaluation.evaluate.Goals as goal

pub loop-node-init : goal.loop-node-init
loop-node-init g c = record {
  kept = λ m means.
      ap (values.after_nodes m (map node_of c.args.nodes.now.rest.items))
      (sym (c.step.ensures.values m means ∙ ap (values.after_node m (node_of c.args.nodes.now.first)) (ap tops c.new-stack.ensures ∙ tops_none)));
  fits = rest_fits (node_of c.args.nodes.now.first) (map node_of c.args.nodes.now.rest.items) 0 (length c.step.new.stack.items)
      (c.step.ensures.count ∙ ap (λ l. values.count_after (node_of c.args.nodes.now.first) (length l)) c.new-stack.ensures) c.requires.fits;
  room = c.step.ensures.room;
}

pub step-requires-in-loop-node : goal.step-requires-in-loop-node
step-requires-in-loop-node g c = λ k. (
  (refl, tt),
  (
    c.requires.callable,
    (
      ap (λ (n : Node). values.node_fits (node_of n) (length c.loop-node.stack.items)) c.node-item.is
          ∙ next_fits c.args.nodes.now.rest.items c.deref-node-items.result.now c.loop-node.node-index c.node-item.result (length c.loop-node.stack.items)
          c.deref-node-items.ensures.value c.loop-node-test.true c.loop-node.invariant.fits,
      c.loop-node.invariant.room,
    ),
  ),
)

pub loop-node-preserved : goal.loop-node-preserved
loop-node-preserved g c =
    let xs = c.args.nodes.now.rest.items in
    let ys = c.deref-node-items.result.now in
    let i = c.loop-node.node-index in
    let d = c.node-item.result in
    record {
      kept = λ m means.
          c.loop-node.invariant.kept m means
          ∙ ap (λ (l : List expression.Node). values.after_nodes m l (tops c.loop-node.stack.items)) (next_node xs ys i d c.deref-node-items.ensures.value c.loop-node-test.true)
          ∙ ap (λ (n : Node). values.after_nodes m (map node_of (drop (i + 1) xs)) (values.after_node m (node_of n) (tops c.loop-node.stack.items))) (sym c.node-item.is)
          ∙ ap (values.after_nodes m (map node_of (drop (i + 1) xs))) (sym (c.step-in-loop-node.ensures.values m means));
      fits = later_fit xs ys i d (length c.loop-node.stack.items) (length c.step-in-loop-node.new.stack.items)
          c.deref-node-items.ensures.value c.loop-node-test.true (c.step-in-loop-node.ensures.count ∙ ap (λ (n : Node). values.count_after (node_of n) (length c.loop-node.stack.items)) c.node-item.is) c.loop-node.invariant.fits;
      room = c.step-in-loop-node.ensures.room;
    }

pub pop-requires : goal.pop-requires
pop-requires g c =
    last_fits c.args.nodes.now.rest.items c.deref-node-items.result.now c.loop-node.node-index (length c.loop-node.stack.items)
    c.deref-node-items.ensures.value c.loop-node-test.false c.loop-node.invariant.fits

pub returns : goal.returns
returns g c = λ m means.
    let v = nodes_value m (nodes_of c.args.nodes.now) c.requires.fits in
    last_value c.loop-node.stack.items c.pop.new.stack.items c.pop.result (values.value_of m (expression.tree_of (nodes_of c.args.nodes.now))) v.0 c.pop.ensures.items
    (sym
    (c.loop-node.invariant.kept m means
    ∙ ap (λ (l : List expression.Node). values.after_nodes m l (tops c.loop-node.stack.items))
    (no_node c.args.nodes.now.rest.items c.deref-node-items.result.now c.loop-node.node-index c.deref-node-items.ensures.value c.loop-node-test.false))
    ∙ v.1)
