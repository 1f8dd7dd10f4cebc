-- What the lexer's tokens stand for.

use Rattle.std.specs.Prelude.{ℕ, List, map}
use Rattle.rv_expression_laws.specs.Cut.{cut}
use Rattle.rv_expression_laws.specs.Strings.{byte_of}
use Rattle.rv_expression_laws.specs.Front.{atom_at}
use Rattle.rv_expression_laws.specs.Grammar as grammar
use Rattle.rv_expression_laws.specs.Lexing as lexing
use Rattle.rv_lexer.specs.Reference.{digits_in, is_ahead}
use Rattle.rv_lexer.specs.declared.token.Token.{Token}
use Rattle.rv_lexer.specs.declared.token.TokenKind.{TokenKind}
use Rattle.rv_lexer.specs.declared.token.TokenKind.TheVariants.{Newline, Punct, Name, Number, Reference, BadWord, Text, Character, BadByte, BadToken, End}

-- the bytes that a string spells between its quotes
unfoldable pub string_bytes : List ℕ → List ℕ
string_bytes text = map (λ a. byte_of a.kind) (cut atom_at text).0

abbrev pub kind_of : TokenKind → grammar.Kind
kind_of Newline = grammar.Newline
kind_of (Punct punct) = grammar.Punctuation punct
kind_of (Name name) = grammar.Name name.now
kind_of (Number word number) = grammar.Number word.now number
kind_of (Reference r) = grammar.Reference (digits_in r.word.now) (is_ahead r.word.now)
kind_of (BadWord word) = grammar.Bad_word word.now
kind_of (Text text) = grammar.Text (string_bytes text.now)
kind_of (Character byte) = grammar.Character byte
kind_of BadByte = grammar.Bad_byte
kind_of BadToken = grammar.Bad_token
kind_of End = grammar.End

abbrev pub token_of : Token → lexing.Token
token_of t = record { kind = kind_of t.kind; start = t.start; stop = t.stop; line = t.line }
