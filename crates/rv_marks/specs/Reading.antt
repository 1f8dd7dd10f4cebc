-- What the reader has read, and what is left.

use Rattle.std.specs.Prelude.{List, ◌++◌, map}
use Rattle.rv_expression_laws.specs.Grammar.{Kind}
use Rattle.rv_expression_laws.specs.Lexing.{Token}
use Rattle.rv_lexer.specs.Token.{kind_of}
use Rattle.rv_lexer.specs.declared.token.TokenKind.{TokenKind}
use Rattle.rv_debug_laws.specs.declared.mark.Mark.{Mark as DeclaredMark}
use Rattle.rv_debug_laws.specs.Labels.{Mark}
use Rattle.rv_debug_laws.specs.Marks.{marks_from}
use Rattle.rv_marks.specs.declared.source.Reader.{Reader}

abbrev pub mark_of : DeclaredMark → Mark
mark_of m = record { name = m.name.now; said = m.said }

abbrev pub kinds_of : List TokenKind → List Kind
kinds_of kinds = map kind_of kinds

-- what a reader has read, with what these tokens say behind it
abbrev pub read_with : Reader → List Token → List Mark
read_with r ts =
    map mark_of r.marks.items ++ marks_from r.ordinal (kinds_of r.begun.items) ts
