use Rattle.std.proofs.Common.{◌≡◌, length}
use Rattle.rv_expression_laws.specs.ExpressionAt as reading
use Rattle.rv_expression.specs.Nodes.{nodes_of}
use Rattle.rv_expression.specs.Expr.{stack_of}
use Rattle.rv_expression.proofs.reading.settle.Given as goal

-- what is left to settle makes what all of it does
abbrev pub invariant-loop-frame : goal.invariant-loop-frame
invariant-loop-frame l =
    reading.settle l.level (stack_of l.initial.frames.items) (nodes_of l.initial.nodes) ≡ reading.settle l.level (stack_of l.frames.items) (nodes_of l.nodes)

abbrev pub decreases-loop-frame : goal.decreases-loop-frame
decreases-loop-frame l = length l.frames.items
