-- Node by node.
use Rattle.std.proofs.Common.{◌∙◌, sym, ap, map, List}
use Rattle.rv_list_laws.proofs.OptionsLemmas.{if_some_map}
use Rattle.rv_expression_laws.specs.Values as values
use Rattle.rv_expression_laws.specs.Expression as expression
use Rattle.rv_expression_laws.proofs.TreesLemmas.{nodes_value}
use Rattle.rv_expression.specs.Nodes.{node_of, nodes_of}
use Rattle.rv_expression.specs.Eval.{tops}
use Rattle.rv_expression.proofs.EvalsLemmas.{tops_none, last_value, no_node}
use Rattle.rv_expression.proofs.evaluation.value_of_few.Goals as goal

pub loop-node-init : goal.loop-node-init
loop-node-init g c = λ m means.
    ap (values.after_nodes m (map node_of c.args.nodes.now.rest.items))
    (sym (c.in_ok-step_few.ensures m means ∙ ap (values.after_node m (node_of c.args.nodes.now.first)) (ap tops c.new-stack.ensures ∙ tops_none)))

pub returns : goal.returns
returns g c = if_some_map c.pop_few.result _ _
    (λ part split m means.
    let v = nodes_value m (nodes_of c.args.nodes.now) c.requires.fits in
    last_value c.loop-node.stack.items c.pop_few.new.stack.items part (values.value_of m (expression.tree_of (nodes_of c.args.nodes.now))) v.0 split
    (sym
    (c.loop-node.invariant m means
    ∙ ap (λ (l : List expression.Node). values.after_nodes m l (tops c.loop-node.stack.items))
    (no_node c.args.nodes.now.rest.items c.deref-node-items.result.now c.loop-node.node-index c.deref-node-items.ensures.value c.loop-node-test.false))
    ∙ v.1))
    c.pop_few.ensures
