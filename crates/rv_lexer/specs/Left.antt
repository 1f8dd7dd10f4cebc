-- A lexer is the list of the tokens that it has left.

use Rattle.std.specs.Prelude.{◌≡◌, Bool, true, false, List, [], ◌∷◌, if◌then◌else◌}
use Rattle.rv_expression_laws.specs.Grammar.{Kind, Bad_token, End}
use Rattle.rv_expression_laws.specs.Lexing as lexing
use Rattle.rv_expression_laws.specs.Front.{tokens_from}
use Rattle.rv_lexer.specs.declared.lexer.Lexer.{Lexer}
use Rattle.rv_lexer.specs.declared.token.Token.{Token}
use Rattle.rv_lexer.specs.Token.{token_of, kind_of}

-- the tokens that a lexer has left
unfoldable pub tokens_left : Lexer → List lexing.Token
tokens_left lexer = tokens_from lexer.at lexer.line lexer.rest.now

-- the tokens without the source's end, which is none that is given
abbrev pub is_source_end : Kind → Bool
is_source_end End = true
is_source_end _ = false

abbrev pub before_end : List lexing.Token → List lexing.Token
before_end [] = []
before_end (t ∷ ts) = if is_source_end t.kind then [] else t ∷ before_end ts

-- what the lexer gives as an iterator
abbrev pub items_left : Lexer → List lexing.Token
items_left lexer = before_end (tokens_left lexer)

-- the only token of a source whose places do not fit 32 bits
abbrev pub oversized : lexing.Token
oversized = record { kind = Bad_token; start = 0; stop = 1; line = 1 }

-- the next token of a lexer, and unless that is the last the lexer that has the tokens after it
abbrev pub GivesToken : Lexer → Token → Lexer → Type 0
GivesToken before next lexer =
    tokens_left before
    ≡ token_of next ∷ (if lexing.is_last (kind_of next.kind) then [] else tokens_left lexer)
