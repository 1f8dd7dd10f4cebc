use Rattle.std.proofs.Common.{◌≡◌, map, length}
use Rattle.rv_lexer.specs.Cursor.{remaining}
use Rattle.rv_parse_laws.specs.Syntax.{A_string}
use Rattle.rv_parse_laws.specs.Parsing.{items_at}
use Rattle.rv_parse_words.specs.View.{string_of}
use Rattle.rv_parse.specs.Slots.{further_items, prepended}
use Rattle.rv_parse.proofs.directive.strings.Given as goal

-- the strings so far, and then those that are left, are all
abbrev pub invariant-loop-cursor : goal.invariant-loop-cursor
invariant-loop-cursor l = items_at A_string (remaining l.fn.cursor) ≡ prepended (map string_of l.strings.items) (further_items A_string (remaining l.cursor))

-- each turn takes a comma and one more
abbrev pub decreases-loop-cursor : goal.decreases-loop-cursor
decreases-loop-cursor l = length (remaining l.cursor)
