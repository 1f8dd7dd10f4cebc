-- What the nodes of the code stand for.

use Rattle.std.specs.Prelude.{ℕ, Bool, true, false, List, [], ◌∷◌, ◌++◌, codes, map, Option, Some, None}
use Rattle.std.specs.List.{list_all}
use Rattle.rv_expression_laws.specs.Grammar.{direction}
use Rattle.rv_expression_laws.specs.Expression as expression
use Rattle.rv_lexer.specs.Reference.{digits_in, is_ahead}
use Rattle.rv_expression.specs.declared.node.Symbol.{Symbol}
use Rattle.rv_expression.specs.declared.node.Symbol.TheVariants as symbols
use Rattle.rv_expression.specs.declared.node.Node.{Node}
use Rattle.rv_expression.specs.declared.node.Node.TheVariants as nodes
use Rattle.rv_expression.specs.declared.node.Nodes.{Nodes}

abbrev pub symbol_of : Symbol → expression.Primary
symbol_of (symbols.Name name) = expression.Symbol name.now
symbol_of symbols.Here = expression.Here
symbol_of (symbols.Reference r) =
    expression.Reference (digits_in r.word.now) (is_ahead r.word.now)

-- how a name, `.` and a reference are written
abbrev pub spelling_of : expression.Primary → List ℕ
spelling_of (expression.Literal number) = []
spelling_of (expression.Symbol name) = name
spelling_of expression.Here = codes "."
spelling_of (expression.Reference digits forward) = digits ++ direction forward ∷ []

abbrev pub node_of : Node → expression.Node
node_of (nodes.Number number) = expression.Primary_node (expression.Literal number)
node_of (nodes.Symbol symbol) = expression.Primary_node (symbol_of symbol)
node_of (nodes.Unary operator) = expression.Unary_node operator
node_of (nodes.Binary operator) = expression.Binary_node operator

abbrev pub nodes_of : Nodes → List expression.Node
nodes_of e = node_of e.first ∷ map node_of e.rest.items

-- a node that is no symbol
abbrev pub is_number_node : expression.Node → Bool
is_number_node (expression.Primary_node (expression.Literal number)) = true
is_number_node (expression.Primary_node _) = false
is_number_node _ = true

-- nodes without a symbol
abbrev pub are_numbers : List expression.Node → Bool
are_numbers ns = list_all is_number_node ns

-- the nodes so far, if there are any
abbrev pub some_nodes : Option Nodes → List expression.Node
some_nodes None = []
some_nodes (Some e) = nodes_of e
