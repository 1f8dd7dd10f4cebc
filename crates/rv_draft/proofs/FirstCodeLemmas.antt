-- The first compressed code of a source.

use Rattle.std.proofs.Common.{◌≡◌, ℕ, ◌+◌, Bool, true, false, List, [], ◌∷◌, drop, refl, sym, ap, ◌∙◌}
use Rattle.std.specs.List.{list_any}
use Rattle.std.specs.Prelude.{◌&&◌, ◌||◌}
use Rattle.rv_statement_laws.specs.Statement.{Statement, Operand, Expression}
use Rattle.rv_statement.specs.View.{statement_of, statement_kind, plain_of, with_operand, with_expression, with_function}
use Rattle.rv_statement.specs.declared.statement.Statement.{Statement as SourceStatement}
use Rattle.rv_statement_laws.specs.declared.pseudo.Function.{Function}
use Rattle.rv_statement.specs.declared.statement.Operation.{Operation}
use Rattle.rv_statement.specs.declared.statement.Operation.TheVariants as operations
use Rattle.rv_statement.specs.declared.statement.Plain.{Plain}
use Rattle.rv_statement.specs.declared.statement.Plain.TheVariants as plains
use Rattle.rv_statement.specs.declared.statement.StatementKind.{StatementKind}
use Rattle.rv_statement.specs.declared.statement.StatementKind.TheVariants as kinds
use Rattle.rv_unit_laws.specs.Sections.{Section}
use Rattle.rv_unit_laws.specs.Tables.{at_start}
use Rattle.rv_unit.specs.declared.section_offset.SectionOffset.{SectionOffset}
use Rattle.rv_unit.specs.declared.section.Extent.{Extent}
use Rattle.rv_unit.specs.declared.unit.Unit.{Unit as SourceUnit}
use Rattle.rv_unit.specs.Unit.{said}
use Rattle.rv_source_laws.specs.Located.{Located, located_from}
use Rattle.rv_source_laws.specs.Compressed.{is_code, names_parcel, is_compressed_code, is_compressed}
use Rattle.rv_draft.specs.Compressed.{is_code_kind, is_parcel_plain, is_parcel_operation, names_parcel_kind}
use Rattle.rv_draft.specs.Contents.{IsExtentAt}
use Rattle.rv_draft.proofs.ExtentsLemmas.{home_at}
use Rattle.rv_draft.proofs.StandingLemmas.{StandsAt, located_at}
use Rattle.rv_draft.proofs.WholeLemmas.{one_file}

-- ---- what is code

and_true : (b : Bool) → b ≡ (b && true)
and_true true = refl
and_true false = refl

and_false : (b : Bool) → false ≡ (b && false)
and_false true = refl
and_false false = refl

plain_code : (executable : Bool) (p : Plain) → true ≡ is_code executable (plain_of p)
plain_code executable (plains.Registers operation rd rs1 rs2) = refl
plain_code executable _ = refl

with_code : (executable : Bool) (operation : Operation) (x : Expression) → true ≡ is_code executable (with_expression operation x)
with_code executable (operations.Li rd) x = refl
with_code executable _ x = refl

function_code : (executable : Bool) (operation : Operation) (function : Function) (x : Expression) → true ≡ is_code executable (with_function operation function x)
function_code executable (operations.Li rd) function x = refl
function_code executable _ function x = refl

pub code_as : (executable : Bool) (kind : StatementKind) → is_code_kind executable kind ≡ is_code executable (statement_kind kind)
code_as executable (kinds.Plain p) = plain_code executable p
code_as executable (kinds.With operation x) = with_code executable operation _
code_as executable (kinds.WithFunction operation function x) = function_code executable operation function _
code_as executable (kinds.AlignsToPower x) = and_true executable
code_as executable (kinds.AlignsToBytes x) = and_true executable
code_as executable (kinds.Label name) = refl
code_as executable (kinds.Numbered number) = refl
code_as executable _ = and_false executable

-- ---- what names a parcel

plain_parcel : (p : Plain) → is_parcel_plain p ≡ names_parcel (plain_of p)
plain_parcel (plains.Registers operation rd rs1 rs2) = refl
plain_parcel (plains.Parcel operation first second) = refl
plain_parcel _ = refl

operand_parcel : (operation : Operation) (o : Operand) → is_parcel_operation operation ≡ names_parcel (with_operand operation o)
operand_parcel (operations.Parcel operation first second) o = refl
operand_parcel _ o = refl

pub parcel_as : (kind : StatementKind) → names_parcel_kind kind ≡ names_parcel (statement_kind kind)
parcel_as (kinds.Plain p) = plain_parcel p
parcel_as (kinds.With operation x) = operand_parcel operation _
parcel_as (kinds.WithFunction operation function x) = operand_parcel operation _
parcel_as _ = refl

-- the test of a statement of a unit where it stands
pub compressed_as : (u : SourceUnit) (i : ℕ) (x : SourceStatement) (p : SectionOffset) (e : Extent) (on : Bool) → StandsAt u i (statement_of x) p → IsExtentAt u.tables.extents.items p.section e
    → on ≡ (located_at (said u) i (statement_of x)).options.rvc
    → ((on || names_parcel_kind x.kind) && is_code_kind e.section.executable x.kind) ≡ is_compressed_code (located_at (said u) i (statement_of x))
compressed_as u i x p e on at there is =
    ap (λ b. (on || names_parcel_kind x.kind) && b) (code_as e.section.executable x.kind)
    ∙ ap (λ (h : Section). (on || names_parcel_kind x.kind) && is_code h.executable (statement_kind x.kind)) (home_at u i (statement_of x) p e at there)
    ∙ ap (λ b. (b || names_parcel_kind x.kind) && is_code (located_at (said u) i (statement_of x)).home.executable (statement_kind x.kind)) is
    ∙ ap (λ b. ((located_at (said u) i (statement_of x)).options.rvc || b) && is_code (located_at (said u) i (statement_of x)).home.executable (statement_kind x.kind)) (parcel_as x.kind)

-- ---- the first code

-- the statements of a source from an index on decide
abbrev pub Decides : List Statement → ℕ → Type 0
Decides ss i = list_any is_compressed_code (drop i (located_from 1 1 (at_start ss) ss)) ≡ is_compressed (ss ∷ [])

pub all_decide : (ss : List Statement) → Decides ss 0
all_decide ss = ap (list_any is_compressed_code) (sym (one_file ss))

module _ (ss : List Statement) (i : ℕ) (s : Located) (next : drop i (located_from 1 1 (at_start ss) ss) ≡ s ∷ drop (i + 1) (located_from 1 1 (at_start ss) ss)) (h : Decides ss i) where
  here : (is_compressed_code s || list_any is_compressed_code (drop (i + 1) (located_from 1 1 (at_start ss) ss))) ≡ is_compressed (ss ∷ [])
  here = ap (list_any is_compressed_code) (sym next) ∙ h

  -- a statement of compressed code decides
  pub decided : true ≡ is_compressed_code s → true ≡ is_compressed (ss ∷ [])
  decided found = ap (λ b. b || list_any is_compressed_code (drop (i + 1) (located_from 1 1 (at_start ss) ss))) found ∙ here

  -- another leaves it to those after it
  pub left_to_others : false ≡ is_compressed_code s → Decides ss (i + 1)
  left_to_others none = ap (λ b. b || list_any is_compressed_code (drop (i + 1) (located_from 1 1 (at_start ss) ss))) none ∙ here

-- none is left
pub none_decides : (ss : List Statement) (i : ℕ) → drop i (located_from 1 1 (at_start ss) ss) ≡ [] → Decides ss i → false ≡ is_compressed (ss ∷ [])
none_decides ss i none h = ap (list_any is_compressed_code) (sym none) ∙ h
