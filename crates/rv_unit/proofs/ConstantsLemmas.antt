-- An expression whose constant is wanted has it by the statements before it alone, and by all of the source.

use Rattle.std.proofs.Common.{◌≡◌, ℕ, ◌+◌, ◌<◌, ◌≤◌, true, false, List, length, refl, sym, Option, Some, None}
use Rattle.rv_expression_laws.specs.Bytes.{digits_value}
use Rattle.rv_expression_laws.specs.Expression.{Literal, Symbol, Here, Reference}
use Rattle.rv_expression_laws.specs.Values.{Constant}
use Rattle.rv_statement_laws.specs.Statement.{Statement, Expression}
use Rattle.rv_unit_laws.specs.Tables.{Tables, SectionOffset, NumericLabel, at_start, tables, numeric_label_after, forward_in, meaning, value_by_tables, opened_of}
use Rattle.rv_unit_laws.proofs.BeforeLemmas.{before_all, before_start}
use Rattle.rv_unit_laws.proofs.SettledLemmas.{Agree, is_settled, constant_same, constant_later}
use Rattle.rv_unit.specs.Unit.{passed}
use Rattle.rv_unit.proofs.ScopedLemmas.{past_name, past_here, past_back}

module _ (ss : List Statement) (i : ℕ) (p : SectionOffset) (within : i ≤ length ss) (inside : p.section < length (opened_of (passed ss i)).sections) where
  -- a numeric label that comes later is no constant
  ahead : (o : Tables) (found : Option NumericLabel) (digits : List ℕ) → is_settled (forward_in (opened_of o) false found) ≡ true → meaning (passed ss i) false (i + 1) p (Reference digits true) ≡ forward_in (opened_of o) false found
  ahead o None digits e = absurd (cc)
  ahead o (Some m) digits e = absurd (cc)

  past_agrees : Agree (λ q. meaning (tables ss) false (i + 1) p q) (λ q. meaning (passed ss i) false (i + 1) p q)
  past_agrees (Literal number) e = refl
  past_agrees (Symbol name) e = sym (past_name ss i p name within)
  past_agrees Here e = sym (past_here ss i p within inside)
  past_agrees (Reference digits true) e = ahead (tables ss) (numeric_label_after (tables ss).numeric_labels (i + 1) (digits_value 10 digits)) digits e
  past_agrees (Reference digits false) e = sym (past_back ss i p digits within)

  -- by the statements before it
  pub constant_past : (e : Expression) (n : ℕ) → value_by_tables (tables ss) false (i + 1) p e ≡ Constant n → value_by_tables (passed ss i) false (i + 1) p e ≡ Constant n
  constant_past e n is = constant_same (λ q. meaning (tables ss) false (i + 1) p q) (λ q. meaning (passed ss i) false (i + 1) p q) past_agrees e n is

-- by all of the source
pub constant_whole : (ss : List Statement) (at : ℕ) (p : SectionOffset) (e : Expression) (n : ℕ) → value_by_tables (tables ss) false at p e ≡ Constant n → value_by_tables (tables ss) true at p e ≡ Constant n
constant_whole ss at p e n is = constant_later (tables ss) (1 + length ss) at (before_all (at_start ss) 1 ss (before_start ss 1)) p e n is
