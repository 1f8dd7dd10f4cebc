-- The tokens that a cursor has left, and what its readings answer.

use Rattle.std.specs.Prelude.{◌≡◌, List, [], ◌∷◌, Result, Ok, Err, if◌then◌else◌}
use Rattle.rv_expression_laws.specs.Lexing as lexing
use Rattle.rv_expression_laws.specs.SyntaxError as laws
use Rattle.rv_lexer.specs.declared.cursor.Cursor.{Cursor}
use Rattle.rv_lexer.specs.declared.syntax_error.SyntaxError.{SyntaxError}
use Rattle.rv_lexer.specs.declared.syntax_error.ReadError.{ReadError}
use Rattle.rv_lexer.specs.declared.syntax_error.ReadError.TheVariants as errors
use Rattle.rv_lexer.specs.Token.{token_of, kind_of}
use Rattle.rv_fault.specs.SourceFault.{source_fault_number}
use Rattle.rv_lexer.specs.Left.{tokens_left}

-- the next token, and unless it is the last those of the lexer
unfoldable pub remaining : Cursor → List lexing.Token
remaining c =
    token_of c.next ∷ (if lexing.is_last (kind_of c.next.kind) then [] else tokens_left c.lexer)

-- what an error of the code stands for
abbrev pub syntax_error_of : SyntaxError → laws.SyntaxError
syntax_error_of w = record { offset = w.offset; line = w.line; code = source_fault_number w.code }

-- a call's error is that of the reading, unless memory ran out
abbrev pub Fails : {Y : Type 0} → ReadError → Result Y laws.SyntaxError → Type 0
Fails (errors.At w) read = read ≡ Err (syntax_error_of w)
Fails errors.OutOfMemory read = Unit {0}

-- a call's result, as `view` sees it, is what the reading at the front of the tokens gives, unless
-- memory ran out
abbrev pub Answers : {X Y : Type 0} → (X → Y) → Result X ReadError → Result Y laws.SyntaxError →
    Type 0
Answers view (Ok x) read = read ≡ Ok (view x)
Answers view (Err e) read = Fails e read
