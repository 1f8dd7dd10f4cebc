-- What the parser's refusals say of the source.

use Rattle.std.proofs.Common.{◌≡◌, ℕ, ◌+◌, ◌<◌, ◌≤◌, List, [], ◌∷◌, length, take, Some, None, Err, sym, ◌∙◌, ap, subst, arith, ◌⊎◌, inl, inr}
use Rattle.rv_expression_laws.specs.Lexing as lexing
use Rattle.rv_expression_laws.specs.Front.{tokens_from}
use Rattle.rv_expression_laws.proofs.TokensLemmas.{given}
use Rattle.rv_fault.specs.declared.source_fault.SourceCode.{SourceCode}
use Rattle.rv_fault.specs.declared.source_fault.SourceCode.TheVariants.{Limit}
use Rattle.rv_fault.specs.SourceFault.{source_fault_number}
use Rattle.rv_statement_laws.specs.Statement.{Statement}
use Rattle.rv_expression_laws.specs.Codes.{limit}
use Rattle.rv_parse_laws.specs.Opening.{is_opened}
use Rattle.rv_parse_laws.specs.Parsing as parsing
use Rattle.rv_expression_laws.specs.SyntaxError as wrongs
use Rattle.rv_parse_laws.specs.Reading.{statements_of_parts, longest_source}
use Rattle.rv_statement_laws.specs.Limits.{most_statements}
use Rattle.rv_parse_laws.specs.Refusals.{SaysUpTo, SyntaxFault, Refuses, RefusesAt}
use Rattle.rv_parse_laws.proofs.FirstFaultLemmas.{FirstInTokens, wrong_first, past_first, all_good, line_refused, before_tokens, token_refused}
use Rattle.rv_lexer.specs.declared.syntax_error.SyntaxError.{SyntaxError}
use Rattle.rv_lexer.specs.declared.syntax_error.ReadError.TheVariants as refusals
use Rattle.rv_lexer.specs.Cursor.{syntax_error_of}
use Rattle.rv_parse.specs.Left.{RefusesTokens}
use Rattle.rv_parse.specs.Lines.{past_line}
use Rattle.rv_parse.proofs.PastLineLemmas.{past_found, past_least, past_none}

-- no code is above the limit's
pub code_within : (code : SourceCode) → source_fault_number code ≤ limit
code_within Limit = omega arith
code_within _ = omega arith

-- the wrong token with which the statements end is the first fault of the tokens
pub first_in_tokens : (bytes : List ℕ) (ts : List lexing.Token) (w : SyntaxError) → ts ≡ tokens_from 0 1 bytes → RefusesTokens ts (refusals.At w) → FirstInTokens bytes (syntax_error_of w)
first_in_tokens bytes ts w is (t, us, ss, (ps, cut, opens, said_is), no_end, stops) = go stops
  where
    lexes : lexing.Lexes bytes ts
    lexes = subst (lexing.Lexes bytes) (sym is) (given bytes)

    counts : length ss ≡ length (statements_of_parts ps)
    counts = ap (λ (xs : List Statement). length xs) said_is

    few : (length ss < most_statements) ⊎ ((length ss ≡ most_statements) × (w.offset ≡ t.start)) → (length (statements_of_parts ps) < most_statements) ⊎ ((length (statements_of_parts ps) ≡ most_statements) × (w.offset ≡ t.start))
    few (inl fewer) = inl (subst (λ n. n < most_statements) counts fewer)
    few (inr (most, here)) = inr (sym counts ∙ most, here)

    go : ((parsing.checked_at (is_opened ss) (t ∷ us) ≡ Err (syntax_error_of w)) × ((length ss < most_statements) ⊎ ((length ss ≡ most_statements) × (w.offset ≡ t.start))))
        ⊎ ((length ss ≡ most_statements) × (syntax_error_of w ≡ record { offset = t.start; line = t.line; code = limit })
        × ((v : wrongs.SyntaxError) → parsing.checked_at (is_opened ss) (t ∷ us) ≡ Err v → v.offset ≡ t.start → ⊥)) → FirstInTokens bytes (syntax_error_of w)
    go (inl (wrong, fewer)) = wrong_first bytes ts ps t us (syntax_error_of w) lexes cut opens (ap (λ xs. parsing.checked_at (is_opened xs) (t ∷ us)) (sym said_is) ∙ wrong) (code_within w.code) (few fewer)
    go (inr (most, same, not)) = subst (FirstInTokens bytes) (sym same) (past_first bytes ts ps t us lexes cut opens no_end (sym counts ∙ most)
        (λ v e. not v (ap (λ xs. parsing.checked_at (is_opened xs) (t ∷ us)) said_is ∙ e)))

-- the limit's fault, as the code has it
pub limit_refused : (bytes : List ℕ) (w : SyntaxError) (place : ℕ) → syntax_error_of w ≡ record { offset = place; line = 1 + lexing.newlines (take place bytes); code = limit }
    → RefusesAt bytes place (record { code = limit; line = 1 + lexing.newlines (take place bytes) }) → RefusesAt bytes w.offset (record { code = source_fault_number w.code; line = w.line })
limit_refused bytes w place is refuses = subst (λ (v : wrongs.SyntaxError). RefusesAt bytes v.offset (record { code = v.code; line = v.line })) (sym is) refuses

-- the same without the place
pub refused_with : (bytes : List ℕ) (place : ℕ) (f : SyntaxFault) → RefusesAt bytes place f → Refuses bytes f
refused_with bytes place f (inl (long, front, same)) = inl (long, same)
refused_with bytes place f (inr (short, first, at)) = inr (short, first)

-- a line that is too long before the tokens' first fault
pub line_first : (bytes : List ℕ) (ts : List lexing.Token) (w : SyntaxError) (place line : ℕ) → length bytes ≤ longest_source → ts ≡ tokens_from 0 1 bytes → RefusesTokens ts (refusals.At w)
    → past_line 0 0 bytes ≡ Some place → place < w.offset → line ≡ 1 + lexing.newlines (take place bytes) → RefusesAt bytes place (record { code = limit; line = line })
line_first bytes ts w place line short is refuses past before line_is =
    line_refused bytes place line short (past_found bytes place past) (λ q at. past_least bytes place q past at)
    (λ p c fault. before_tokens bytes (syntax_error_of w) place p c (first_in_tokens bytes ts w is refuses) before fault) line_is

-- a line that is too long behind good statements
pub line_alone : (bytes : List ℕ) (ts : List lexing.Token) (ss : List Statement) (place line : ℕ) → length bytes ≤ longest_source → ts ≡ tokens_from 0 1 bytes → SaysUpTo ts [] ss
    → length ss ≤ most_statements → past_line 0 0 bytes ≡ Some place → line ≡ 1 + lexing.newlines (take place bytes) → RefusesAt bytes place (record { code = limit; line = line })
line_alone bytes ts ss place line short is (ps, cut, opens, said_is) few past line_is =
    line_refused bytes place line short (past_found bytes place past) (λ q at. past_least bytes place q past at)
    (λ p c fault. absurd (all_good bytes ts ps (subst (lexing.Lexes bytes) (sym is) (given bytes)) cut opens (subst (λ (xs : List Statement). length xs ≤ most_statements) said_is few) p c fault)) line_is

-- the tokens' first fault before a line that is too long, or where there is none
pub token_before : (bytes : List ℕ) (ts : List lexing.Token) (w : SyntaxError) (place : ℕ) → length bytes ≤ longest_source → ts ≡ tokens_from 0 1 bytes → RefusesTokens ts (refusals.At w)
    → past_line 0 0 bytes ≡ Some place → w.offset ≤ place → RefusesAt bytes w.offset (record { code = source_fault_number w.code; line = w.line })
token_before bytes ts w place short is refuses past before =
    token_refused bytes (syntax_error_of w) short (first_in_tokens bytes ts w is refuses) (code_within w.code)
    (λ q at. within q (past_least bytes place q past at))
  where
    within : (q : ℕ) → place ≤ q → w.offset ≤ q
    within q le = omega (arith, before, le)

pub token_alone : (bytes : List ℕ) (ts : List lexing.Token) (w : SyntaxError) → length bytes ≤ longest_source → ts ≡ tokens_from 0 1 bytes → RefusesTokens ts (refusals.At w)
    → past_line 0 0 bytes ≡ None → RefusesAt bytes w.offset (record { code = source_fault_number w.code; line = w.line })
token_alone bytes ts w short is refuses none =
    token_refused bytes (syntax_error_of w) short (first_in_tokens bytes ts w is refuses) (code_within w.code) (λ q at. absurd (past_none bytes none q at))
