-- A statement is added with its padding, or has a fault.

use Rattle.std.proofs.Common.{◌≡◌, ℕ, Bool, true, false, List, [], ◌∷◌, ◌++◌, length, Err, refl, sym, ap, subst, ◌∙◌, append-nil}
use Rattle.std.specs.Global.{Vec}
use Rattle.std.specs.Prelude.{◌==◌, is_some, if◌then◌else◌}
use Rattle.rv_expression_laws.specs.Expression.{Primary}
use Rattle.rv_expression_laws.specs.Values as values
use Rattle.rv_fault.specs.declared.source_fault.SourceFault.{SourceFault}
use Rattle.rv_fault.specs.declared.source_fault.SourceFault.TheVariants.{At, OutOfMemory}
use Rattle.rv_statement_laws.specs.Statement.{Expression, Statement}
use Rattle.rv_statement.specs.View.{statement_kind}
use Rattle.rv_statement.specs.declared.statement.StatementKind.{StatementKind as SourceKind}
use Rattle.rv_statement.specs.declared.statement.StatementKind.TheVariants as kinds
use Rattle.rv_assemble_laws.specs.InstructionFaults.{instruction_faults}
use Rattle.rv_assemble_laws.specs.Refusals.{else_fault}
use Rattle.rv_instruction.specs.declared.encoded.Coded.{Coded}
use Rattle.rv_instruction.specs.Code.{near_forms_of, HasCode, Codes}
use Rattle.rv_draft.specs.Added.{IsAdded, Adds}
use Rattle.rv_draft.specs.Compressed.{is_code_kind}
use Rattle.rv_draft.specs.Code.{GrowsBy, bytes_in, code_bytes, code_size, full_fault, full_at}
use Rattle.rv_draft.specs.Contents.{statement_padding}
use Rattle.rv_draft.specs.declared.code.Coder.{Coder}

pub adds_fault : (old new : Coder) (section : ℕ) (executable rvc : Bool) (bytes wanted : ℕ) (v : Expression → values.Value) (l : Primary → Bool) (s : Statement) (fault : SourceFault)
    → Codes rvc bytes v l s (Err fault) → Adds old new section executable (instruction_faults v l s.kind) v rvc wanted s (Err fault)
adds_fault old new section executable rvc bytes wanted v l s (At code line) h = h
adds_fault old new section executable rvc bytes wanted v l s OutOfMemory h = tt

pub added_by : (old new : Coder) (section : ℕ) (executable : Bool) (faults : List ℕ) (v : Expression → values.Value) (rvc : Bool) (bytes wanted padding : ℕ) (s : Statement) (coded : List Coded)
    → faults ≡ [] → padding ≡ statement_padding executable v s.kind → HasCode v rvc bytes s.kind coded → (is_some (near_forms_of rvc s.kind) ≡ true → bytes ≡ wanted) → GrowsBy old.sections.items new.sections.items section (code_bytes padding coded)
    → new.sizes.items ≡ old.sizes.items ++ code_size padding coded ∷ []
    → full_fault new.full ≡ else_fault (full_fault old.full) (full_at s.line (length (bytes_in new.sections.items section)))
    → IsAdded old new section executable faults v rvc wanted s
added_by old new section executable faults v rvc bytes wanted padding s coded none is has asked grows counts full = record {
  sound = none;
  coded = coded;
  is = (bytes, has);
  asked = asked;
  grows = subst (λ p. GrowsBy old.sections.items new.sections.items section (code_bytes p coded)) is grows;
  counts = counts ∙ ap (λ p. old.sizes.items ++ code_size p coded ∷ []) is;
  full = full;
}

-- ---- what is no instruction

pub no_code : (kind : SourceKind) (executable : Bool) (v : Expression → values.Value) (l : Primary → Bool) (rvc : Bool) (bytes : ℕ) → is_code_kind executable kind ≡ false
    → (instruction_faults v l (statement_kind kind) ≡ []) × HasCode v rvc bytes (statement_kind kind) []
no_code (kinds.Label name) executable v l rvc bytes e = (refl, refl)
no_code (kinds.Numbered digits) executable v l rvc bytes e = (refl, refl)
no_code (kinds.Plain plain) executable v l rvc bytes e = absurd (cc)
no_code (kinds.With operation expression) executable v l rvc bytes e = absurd (cc)
no_code (kinds.WithFunction operation function expression) executable v l rvc bytes e = absurd (cc)
no_code (kinds.Enters section) executable v l rvc bytes e = (refl, refl)
no_code (kinds.Opens opening) executable v l rvc bytes e = (refl, refl)
no_code (kinds.Binds binding names) executable v l rvc bytes e = (refl, refl)
no_code (kinds.Sets setting) executable v l rvc bytes e = (refl, refl)
no_code (kinds.AlignsToPower exponent) executable v l rvc bytes e = (refl, refl)
no_code (kinds.AlignsToBytes count) executable v l rvc bytes e = (refl, refl)
no_code (kinds.Value width one) executable v l rvc bytes e = (refl, refl)
no_code (kinds.Values width all) executable v l rvc bytes e = (refl, refl)
no_code (kinds.Ascii strings) executable v l rvc bytes e = (refl, refl)
no_code (kinds.Asciz strings) executable v l rvc bytes e = (refl, refl)
no_code (kinds.Zeros count) executable v l rvc bytes e = (refl, refl)
no_code (kinds.Chooses choice) executable v l rvc bytes e = (refl, refl)
no_code kinds.Ignored executable v l rvc bytes e = (refl, refl)

-- what is no code has no padding
pub no_padding : (kind : SourceKind) (executable : Bool) (v : Expression → values.Value) → is_code_kind executable kind ≡ false → statement_padding executable v (statement_kind kind) ≡ 0
no_padding (kinds.Label name) executable v e = refl
no_padding (kinds.Numbered digits) executable v e = refl
no_padding (kinds.Plain plain) executable v e = absurd (cc)
no_padding (kinds.With operation expression) executable v e = absurd (cc)
no_padding (kinds.WithFunction operation function expression) executable v e = absurd (cc)
no_padding (kinds.Enters section) true v e = refl
no_padding (kinds.Enters section) false v e = refl
no_padding (kinds.Opens opening) true v e = refl
no_padding (kinds.Opens opening) false v e = refl
no_padding (kinds.Binds binding names) true v e = refl
no_padding (kinds.Binds binding names) false v e = refl
no_padding (kinds.Sets setting) true v e = refl
no_padding (kinds.Sets setting) false v e = refl
no_padding (kinds.AlignsToPower exponent) true v e = absurd (cc)
no_padding (kinds.AlignsToPower exponent) false v e = refl
no_padding (kinds.AlignsToBytes count) true v e = absurd (cc)
no_padding (kinds.AlignsToBytes count) false v e = refl
no_padding (kinds.Value width one) true v e = refl
no_padding (kinds.Value width one) false v e = refl
no_padding (kinds.Values width all) true v e = refl
no_padding (kinds.Values width all) false v e = refl
no_padding (kinds.Ascii strings) true v e = refl
no_padding (kinds.Ascii strings) false v e = refl
no_padding (kinds.Asciz strings) true v e = refl
no_padding (kinds.Asciz strings) false v e = refl
no_padding (kinds.Zeros count) true v e = refl
no_padding (kinds.Zeros count) false v e = refl
no_padding (kinds.Chooses choice) true v e = refl
no_padding (kinds.Chooses choice) false v e = refl
no_padding kinds.Ignored true v e = refl
no_padding kinds.Ignored false v e = refl

pub grows_none : (sections : List (Vec ℕ)) (section : ℕ) → GrowsBy sections sections section []
grows_none sections section = (refl, λ j. go j (j == section))
  where
    go : (j : ℕ) (here : Bool) → bytes_in sections j ≡ (if here then bytes_in sections j ++ [] else bytes_in sections j)
    go j true = sym (append-nil (bytes_in sections j))
    go j false = refl
