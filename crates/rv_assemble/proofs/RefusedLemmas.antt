-- What holds of the statements that a text reads as holds of the text.

use Rattle.std.proofs.Common.{◌≡◌, ℕ, List, ap, ◌∙◌, None, inl, inr}
use Rattle.std.specs.Prelude.{Result, Ok, Err, IfOk, IfErr}
use Rattle.rv_fault.specs.declared.source_fault.SourceFault.{SourceFault}
use Rattle.rv_fault.specs.declared.source_fault.SourceFault.TheVariants.{At, OutOfMemory}
use Rattle.rv_statement_laws.specs.Statement.{Statement}
use Rattle.rv_parse_laws.specs.Reading.{Reads}
use Rattle.rv_unit_laws.specs.Faults.{first_unit_fault}
use Rattle.rv_object_types.specs.declared.object.Object.{Object as DeclaredObject}
use Rattle.rv_object_types.specs.View.{object_of}
use Rattle.rv_assemble_laws.specs.IsObjectOf.{IsObjectOf}
use Rattle.rv_assemble_laws.specs.Refusals.{code_fault, else_fault, statements_fault}
use Rattle.rv_unit.specs.Unit.{NamesFirst}
use Rattle.rv_draft.specs.Draft.{IsRefusedSource}
use Rattle.rv_assemble_laws.specs.FirstFault.{IsFirstFault}
use Rattle.rv_assemble.specs.Placed.{AreRefused}

pub all_sound : (ss : List Statement) → first_unit_fault ss ≡ None → code_fault ss ≡ None → statements_fault ss ≡ None
all_sound ss good code = ap (λ f. else_fault f (code_fault ss)) good ∙ code

of_code : (text : List ℕ) (ss : List Statement) (e : SourceFault) → Reads text ss → first_unit_fault ss ≡ None → IsRefusedSource ss e → IsFirstFault text e
of_code text ss (At code line) reads good (inl h) = inr (ss, reads, inl (ap (λ f. else_fault f (code_fault ss)) good ∙ h))
of_code text ss (At code line) reads good (inr (none, long)) = inr (ss, reads, inr (all_sound ss good none, long))
of_code text ss OutOfMemory reads good h = tt

pub object_read : (text : List ℕ) (ss : List Statement) (r : Result DeclaredObject SourceFault) → Reads text ss → IfOk r (λ o. statements_fault ss ≡ None) → IfOk r (λ o. IsObjectOf ss (object_of o))
    → IfOk r (λ o. (ss : List Statement) × Reads text ss × (statements_fault ss ≡ None) × IsObjectOf ss (object_of o))
object_read text ss (Ok o) reads sound h = (ss, reads, sound, h)
object_read text ss (Err e) reads sound h = tt

pub fault_read : (text : List ℕ) (ss : List Statement) (r : Result DeclaredObject SourceFault) → Reads text ss → first_unit_fault ss ≡ None → IfErr r (λ e. IsRefusedSource ss e) → IfErr r (λ e. IsFirstFault text e)
fault_read text ss (Ok o) reads good h = tt
fault_read text ss (Err e) reads good h = of_code text ss e reads good h

-- the fault of a unit, and of its draft, are those of its statements
pub unit_refused : (ss : List Statement) (e : SourceFault) → NamesFirst e ss → AreRefused ss e
unit_refused ss (At code line) h = inl (ap (λ f. else_fault f (code_fault ss)) h)
unit_refused ss OutOfMemory h = tt

pub code_refused : (ss : List Statement) (e : SourceFault) → first_unit_fault ss ≡ None → IsRefusedSource ss e → AreRefused ss e
code_refused ss (At code line) good (inl h) = inl (ap (λ f. else_fault f (code_fault ss)) good ∙ h)
code_refused ss (At code line) good (inr (none, long)) = inr (all_sound ss good none, long)
code_refused ss OutOfMemory good h = tt
