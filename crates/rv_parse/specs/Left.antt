-- What the readings of a cursor answer.

use Rattle.std.specs.Prelude.{◌≡◌, ◌<◌, ℕ, Bool, false, List, ◌∷◌, length, Result, Ok, Err, ◌⊎◌}
use Rattle.rv_statement_laws.specs.Statement.{Statement, Instruction, Directs}
use Rattle.rv_statement.specs.View.{statement_kind}
use Rattle.rv_statement_laws.specs.declared.mnemonic.Mnemonic.{Mnemonic}
use Rattle.rv_statement_laws.specs.declared.directive.DirectiveWord.{DirectiveWord}
use Rattle.rv_statement.specs.declared.statement.StatementKind.{StatementKind}
use Rattle.rv_parse_laws.specs.Syntax.{is_end, slots, operand_slots, directed}
use Rattle.rv_lexer.specs.declared.cursor.Cursor.{Cursor}
use Rattle.rv_expression_laws.specs.Codes.{limit}
use Rattle.rv_statement_laws.specs.Limits.{most_statements}
use Rattle.rv_parse_laws.specs.Refusals.{SaysUpTo, Refuses, RefusesAt}
use Rattle.rv_fault.specs.declared.source_fault.SourceFault.{SourceFault}
use Rattle.rv_fault.specs.declared.source_fault.SourceFault.TheVariants as faults
use Rattle.rv_expression_laws.specs.Lexing as lexing
use Rattle.rv_fault.specs.SourceFault.{source_fault_number}
use Rattle.rv_parse_laws.specs.Opening.{is_opened}
use Rattle.rv_parse_laws.specs.Parsing as parsing
use Rattle.rv_expression_laws.specs.SyntaxError as wrongs
use Rattle.rv_lexer.specs.declared.syntax_error.SyntaxError.{SyntaxError}
use Rattle.rv_lexer.specs.declared.syntax_error.ReadError.{ReadError}
use Rattle.rv_lexer.specs.declared.syntax_error.ReadError.TheVariants as refusals
use Rattle.rv_lexer.specs.Cursor.{remaining, syntax_error_of, Answers}

-- a call's result, as `view` sees it, is what the reading at the front of the tokens gives
abbrev pub Gives : {X Y : Type 0} → (X → Y) → Result X SyntaxError → Result Y wrongs.SyntaxError →
    Type 0
Gives view (Ok x) read = read ≡ Ok (view x)
Gives view (Err w) read = read ≡ Err (syntax_error_of w)

-- from one state of a cursor to another a call answers the statement of a mnemonic and its operands
abbrev pub ReadsInstruction : Mnemonic → Cursor → Cursor → Result StatementKind ReadError → Type 0
ReadsInstruction m old new result =
    Answers (λ k. (statement_kind k, remaining new)) result
    (parsing.seen_as (Instruction m) (parsing.operands_at (slots m) (remaining old)))

abbrev pub GivesInstruction : Mnemonic → Cursor → Cursor → Result StatementKind SyntaxError → Type 0
GivesInstruction m old new result =
    Gives (λ k. (statement_kind k, remaining new)) result
    (parsing.seen_as (Instruction m) (parsing.operands_at (slots m) (remaining old)))

-- the statement of a directive's word and its operands
abbrev pub ReadsDirective : DirectiveWord → Cursor → Cursor → Result StatementKind ReadError →
    Type 0
ReadsDirective word old new result =
    Answers (λ k. (statement_kind k, remaining new)) result
    (parsing.seen_as (λ os. Directs (directed word os))
    (parsing.operands_at (operand_slots word) (remaining old)))

abbrev pub GivesDirective : DirectiveWord → Cursor → Cursor → Result StatementKind SyntaxError →
    Type 0
GivesDirective word old new result =
    Gives (λ k. (statement_kind k, remaining new)) result
    (parsing.seen_as (λ os. Directs (directed word os))
    (parsing.operands_at (operand_slots word) (remaining old)))

-- No further statement is answered at the token t, which begins the tokens ts behind so many
-- statements, where these names are known: the part there is wrong, or it is a statement too many;
-- where it is both, what stands first.
abbrev pub StopsAt : ReadError → (List ℕ → Bool) → ℕ → lexing.Token → List lexing.Token → Type 0
StopsAt (refusals.At w) known count t ts =
    ((parsing.checked_at known ts ≡ Err (syntax_error_of w))
    × ((count < most_statements) ⊎ ((count ≡ most_statements) × (w.offset ≡ t.start))))
    ⊎ ((count ≡ most_statements)
    × (syntax_error_of w ≡ record { offset = t.start; line = t.line; code = limit })
    × ((v : wrongs.SyntaxError) → parsing.checked_at known ts ≡ Err v → v.offset ≡ t.start → ⊥))
StopsAt refusals.OutOfMemory known count t ts = Unit {0}

-- the tokens say statements up to a token where no further one is answered
abbrev pub RefusesTokens : List lexing.Token → ReadError → Type 0
RefusesTokens ts (refusals.At w) =
    (t : lexing.Token) × (us : List lexing.Token) × (ss : List Statement) × SaysUpTo ts (t ∷ us) ss
    × (is_end t.kind ≡ false)
    × StopsAt (refusals.At w) (is_opened ss) (length ss) t (t ∷ us)
RefusesTokens ts refusals.OutOfMemory = Unit {0}

-- the bytes are refused with the code and the line of the fault, unless memory ran out
abbrev pub RefusedWith : List ℕ → SourceFault → Type 0
RefusedWith bytes (faults.At code line) =
    Refuses bytes (record { code = source_fault_number code; line = line })
RefusedWith bytes faults.OutOfMemory = Unit {0}

-- the bytes are refused with the code, the line and the place of the fault, unless memory ran out
abbrev pub RefusedAt : List ℕ → ReadError → Type 0
RefusedAt bytes (refusals.At w) =
    RefusesAt bytes w.offset (record { code = source_fault_number w.code; line = w.line })
RefusedAt bytes refusals.OutOfMemory = Unit {0}
