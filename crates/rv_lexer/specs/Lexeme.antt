-- What the lexemes of the code stand for.

use Rattle.std.specs.Prelude.{ℕ, Bool, true, false, ◌||◌, ◌==◌}
use Rattle.rv_expression_laws.specs.Grammar as grammar
use Rattle.rv_lexer.specs.declared.lexeme.Lexeme.{Lexeme}
use Rattle.rv_lexer.specs.declared.lexeme.LexemeKind.{LexemeKind}
use Rattle.rv_lexer.specs.declared.lexeme.LexemeKind.TheVariants.{Space, LineComment, BlockComment, Token}
use Rattle.rv_lexer.specs.Token.{kind_of}

abbrev pub lexeme_kind_of : LexemeKind → grammar.Kind
lexeme_kind_of Space = grammar.Space
lexeme_kind_of LineComment = grammar.Line_comment
lexeme_kind_of BlockComment = grammar.Block_comment
lexeme_kind_of (Token kind) = kind_of kind

-- a lexeme's kind and its length
abbrev pub front_of : Lexeme → grammar.Kind × ℕ
front_of p = (lexeme_kind_of p.kind, p.length)

-- the kinds whose lexemes have line feeds
abbrev pub has_feeds : grammar.Kind → Bool
has_feeds grammar.Block_comment = true
has_feeds grammar.Newline = true
has_feeds _ = false

-- a blank, a tab and a carriage return
abbrev pub is_blank : ℕ → Bool
is_blank b = (b == 32) || (b == 9) || (b == 13)
