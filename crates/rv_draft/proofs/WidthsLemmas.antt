-- Values of data have 1, 2, 4 or 8 bytes.

use Rattle.std.proofs.Common.{◌≡◌, ℕ, zero, suc, inl, inr, List, [], ◌∷◌, map, get_or, refl, subst}
use Rattle.std.specs.List.{AllByRecursion}
use Rattle.rv_isa_laws.specs.Bytes.{little_endian, zeros}
use Rattle.rv_statement.specs.Records.{plain_in, statement_in, recorded}
use Rattle.rv_statement_laws.specs.Statement.{Expression, Directs, Ignored, Statement as SpecStatement, Values, Emits}
use Rattle.rv_statement.specs.Statements.{statements_of}
use Rattle.rv_statement_laws.specs.Widths.{width_bytes}
use Rattle.rv_statement.specs.View.{plain_of, with_expression, with_function, statement_kind, statement_of}
use Rattle.rv_statement_laws.specs.declared.directive.Width.{Width}
use Rattle.rv_statement_laws.specs.declared.directive.Width.TheVariants as widths
use Rattle.rv_statement_laws.specs.declared.pseudo.Function.{Function}
use Rattle.rv_statement.specs.declared.statement.Operation.{Operation}
use Rattle.rv_statement.specs.declared.statement.Operation.TheVariants as operations
use Rattle.rv_statement.specs.declared.statement.Plain.{Plain}
use Rattle.rv_statement.specs.declared.statement.Plain.TheVariants as plains
use Rattle.rv_statement.specs.declared.record.Record.{Record}
use Rattle.rv_statement.specs.declared.record.Words.{Words}
use Rattle.rv_statement.specs.declared.record.Words.TheVariants as words
use Rattle.rv_statement.specs.declared.statement.Statement.{Statement}
use Rattle.rv_statement.specs.declared.statement.StatementKind.{StatementKind}
use Rattle.rv_statement.specs.declared.statement.StatementKind.TheVariants as kinds
use Rattle.rv_statement.specs.declared.statements.Statements.{Statements}
use Rattle.rv_assemble_laws.specs.Templates.{IsWidth}
use Rattle.rv_draft.proofs.FittedLemmas.{IsWideKind}

bytes_wide : (width : Width) → IsWidth (width_bytes width)
bytes_wide widths.Byte = inl refl
bytes_wide widths.Half = inr (inl refl)
bytes_wide widths.Word = inr (inr (inl refl))
bytes_wide widths.Double = inr (inr (inr refl))

-- no number is zeros
pub no_number : (width : Width) → little_endian (width_bytes width) 0 ≡ zeros (width_bytes width)
no_number widths.Byte = refl
no_number widths.Half = refl
no_number widths.Word = refl
no_number widths.Double = refl

plain_no : (p : Plain) (w : ℕ) (vs : List Expression) → plain_of p ≡ Directs (Emits (Values w vs)) → ⊥
plain_no (plains.Registers operation rd rs1 rs2) w vs e = absurd (cc)
plain_no _ w vs e = absurd (cc)

with_no : (operation : Operation) (x : Expression) (w : ℕ) (vs : List Expression) → with_expression operation x ≡ Directs (Emits (Values w vs)) → ⊥
with_no (operations.Li rd) x w vs e = absurd (cc)
with_no _ x w vs e = absurd (cc)

function_no : (operation : Operation) (function : Function) (x : Expression) (w : ℕ) (vs : List Expression) → with_function operation function x ≡ Directs (Emits (Values w vs)) → ⊥
function_no (operations.Li rd) function x w vs e = absurd (cc)
function_no _ function x w vs e = absurd (cc)

kind_wide : (kind : StatementKind) → IsWideKind (statement_kind kind)
kind_wide (kinds.Value width one) w vs e = let same : width_bytes width ≡ w = cc in subst (λ n. IsWidth n) same (bytes_wide width)
kind_wide (kinds.Values width values) w vs e = let same : width_bytes width ≡ w = cc in subst (λ n. IsWidth n) same (bytes_wide width)
kind_wide (kinds.Plain p) w vs e = absurd (plain_no p w vs e)
kind_wide (kinds.With operation x) w vs e = absurd (with_no operation _ w vs e)
kind_wide (kinds.WithFunction operation function x) w vs e = absurd (function_no operation function _ w vs e)
kind_wide _ w vs e = absurd (cc)

whole_wide : (xs : List Statement) (i line : ℕ) → IsWideKind (get_or (map statement_of xs) i (record { line = line; kind = Directs Ignored })).kind
whole_wide [] zero line w vs e = absurd (cc)
whole_wide [] (suc i) line w vs e = absurd (cc)
whole_wide (x ∷ xs) zero line w vs e = kind_wide x.kind w vs e
whole_wide (x ∷ xs) (suc i) line w vs e = whole_wide xs i line w vs e

words_wide : (source : List ℕ) (whole : List Statement) (line : ℕ) (says : Words) → IsWideKind (statement_in source whole line says).kind
words_wide source whole line (words.Plain short) w vs e = absurd (plain_no (plain_in short) w vs e)
words_wide source whole line (words.Numbered count start) w vs e = absurd (cc)
words_wide source whole line (words.Whole index) w vs e = whole_wide whole index line w vs e

records_wide : (source : List ℕ) (whole : List Statement) (rs : List Record) → AllByRecursion (λ (s : SpecStatement). IsWideKind s.kind) (map (recorded source whole) rs)
records_wide source whole [] = tt
records_wide source whole (r ∷ rs) = (words_wide source whole r.line r.words, records_wide source whole rs)

pub all_wide : (s : Statements) → AllByRecursion (λ (x : SpecStatement). IsWideKind x.kind) (statements_of s)
unfolding statements_of
all_wide s = records_wide s.source.now s.whole.items s.records.items
