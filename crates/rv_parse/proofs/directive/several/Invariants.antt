use Rattle.std.proofs.Common.{◌≡◌, ◌∷◌, [], map, length}
use Rattle.rv_lexer.specs.Cursor.{remaining}
use Rattle.rv_parse_laws.specs.Syntax.{A_value}
use Rattle.rv_parse.specs.View.{operand_of_value}
use Rattle.rv_parse.specs.Slots.{further_items, prepended}
use Rattle.rv_parse.proofs.directive.several.Given as goal
use Rattle.rv_parse_laws.specs.declared.role.Role.TheVariants as roles

-- the values so far, and then those that are left, are all
abbrev pub invariant-loop-alloc : goal.invariant-loop-alloc
invariant-loop-alloc l =
    prepended (operand_of_value l.fn.first ∷ []) (further_items (A_value roles.Directive) (remaining l.fn.cursor)) ≡ prepended (map operand_of_value l.values.items) (further_items (A_value roles.Directive) (remaining l.cursor))

-- each turn takes a comma and one more
abbrev pub decreases-loop-alloc : goal.decreases-loop-alloc
decreases-loop-alloc l = length (remaining l.cursor)
