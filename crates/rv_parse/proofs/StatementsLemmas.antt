-- Statements read one by one, as the code holds them.

use Rattle.std.proofs.Common.{◌≡◌, ℕ, ◌+◌, true, false, List, [], ◌∷◌, ◌++◌, length, length-append, Result, Ok, Err, refl, sym, ◌∙◌, ap, subst, arith}
use Rattle.rv_expression_laws.specs.Lexing as lexing
use Rattle.rv_lexer.specs.Token.{token_of, kind_of}
use Rattle.rv_statement_laws.specs.Statement.{Statement as SpecStatement}
use Rattle.rv_parse_laws.specs.Syntax.{Says, is_end, is_source_end}
use Rattle.rv_parse_laws.specs.Opening.{is_opened}
use Rattle.rv_parse_laws.specs.Parsing.{statement_at, part_at, checked_at}
use Rattle.rv_parse_laws.specs.Refusals.{SaysUpTo}
use Rattle.rv_parse_laws.proofs.ProgressLemmas.{push_end, push_statement, source_end_is_end}
use Rattle.rv_statement.specs.declared.statement.Statement.{Statement}
use Rattle.rv_statement.specs.declared.statement.StatementKind.{StatementKind}
use Rattle.rv_lexer.specs.declared.cursor.Cursor.{Cursor}
use Rattle.rv_statement.specs.View.{statement_kind, statement_of}
use Rattle.rv_lexer.specs.declared.syntax_error.ReadError.{ReadError}
use Rattle.rv_lexer.specs.declared.syntax_error.ReadError.TheVariants as refusals
use Rattle.rv_lexer.specs.Cursor.{remaining, Answers}
use Rattle.rv_parse.specs.Left.{StopsAt, RefusesTokens}

-- a statement that is read behind its first token
pub said_as : (r : Result StatementKind ReadError) (t : lexing.Token) (us ts new : List lexing.Token) → ts ≡ t ∷ us → is_end t.kind ≡ false
    → Answers (λ k. (statement_kind k, new)) r (statement_at t us) → Answers (λ k. (Says (statement_kind k), new)) r (part_at ts)
unfolding part_at
said_as (Ok k) t us ts new is no_end h = rw is (rw (no_end, h) refl)
said_as (Err (refusals.At w)) t us ts new is no_end h = rw is (rw (no_end, h) refl)
said_as (Err refusals.OutOfMemory) t us ts new is no_end h = tt

pub statements_push : (ts : List lexing.Token) (t : lexing.Token) (before us rest : List lexing.Token) (s : Statement) (ss new : List SpecStatement)
    → SaysUpTo ts before ss → before ≡ t ∷ us → checked_at (is_opened ss) before ≡ Ok (Says (statement_kind s.kind), rest) → s.line ≡ t.line → new ≡ ss ++ statement_of s ∷ []
    → SaysUpTo ts rest new
statements_push ts t before us rest s ss new so is read line pushed =
    let lines : statement_of s ≡ record { line = t.line; kind = statement_kind s.kind } = ap (λ (n : ℕ). record { line = n; kind = statement_kind s.kind }) line in
    subst (SaysUpTo ts rest) (ap (λ (x : SpecStatement). ss ++ x ∷ []) (sym lines) ∙ sym pushed)
    (push_statement ts t before us rest (statement_kind s.kind) ss so is read)

pub counted_push : (s : Statement) (ss new : List SpecStatement) (n : ℕ) → length ss ≡ n → new ≡ ss ++ statement_of s ∷ [] → length new ≡ n + 1
counted_push s ss new n counted pushed =
    ap (λ (l : List SpecStatement). length l) pushed ∙ omega (arith, counted, length-append ss (statement_of s ∷ []))

-- a cursor has its next token first
abbrev pub behind : Cursor → List lexing.Token
behind c = tail (remaining c)
  where
    tail : List lexing.Token → List lexing.Token
    tail [] = []
    tail (t ∷ ts) = ts

pub left_is : (c : Cursor) → remaining c ≡ token_of c.next ∷ behind c
unfolding remaining
left_is c = refl

-- the source's end is the last token, and says nothing more
pub statements_end : (ts : List lexing.Token) (c : Cursor) (ss : List SpecStatement) → SaysUpTo ts (remaining c) ss → is_source_end (kind_of c.next.kind) ≡ true → SaysUpTo ts [] ss
unfolding remaining
statements_end ts c ss so end =
    let e = source_end_is_end (kind_of c.next.kind) end in
    push_end ts (token_of c.next) (remaining c) [] ss so (rw (e.1) refl) e.0

-- no further statement is answered at the cursor's next token
pub refuses_here : (ts : List lexing.Token) (c : Cursor) (ss : List SpecStatement) (n : ℕ) (e : ReadError) → SaysUpTo ts (remaining c) ss → is_end (kind_of c.next.kind) ≡ false → length ss ≡ n
    → StopsAt e (is_opened ss) n (token_of c.next) (remaining c) → RefusesTokens ts e
unfolding remaining
refuses_here ts c ss n (refusals.At w) so no_end count stops = (token_of c.next, behind c, ss, so, no_end, subst (λ m. StopsAt (refusals.At w) (is_opened ss) m (token_of c.next) (remaining c)) (sym count) stops)
refuses_here ts c ss n refusals.OutOfMemory so no_end count stops = tt
