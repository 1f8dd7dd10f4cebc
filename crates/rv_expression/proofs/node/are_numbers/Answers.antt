use Rattle.std.proofs.Common.{◌∙◌, sym, rules, tests}
use Rattle.std.proofs.lemmas.Iterator.{YieldsList-from_slice}
use Rattle.std.proofs.lemmas.Iterator.Search.{all_from_yields_List}
use Rattle.std.proofs.lemmas.List.Folds.{list_all-map}
use Rattle.rv_expression.specs.Nodes.{node_of, is_number_node}
use Rattle.rv_expression.proofs.node.are_numbers.Goals as goal

pub returns : goal.returns
returns c =
    let nodes = c.args.nodes.now in
    all_from_yields_List (λ n. is_number_node (node_of n)) _ _ c.all.result c.all.ensures.ran (YieldsList-from_slice nodes cc) (λ x b q k. search (rules, tests))
    ∙ sym (list_all-map is_number_node node_of nodes)
