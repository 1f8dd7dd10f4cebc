-- The open fields of a part of code, where a call may be one instruction: that one keeps the mark of relaxation beside its field.

use Rattle.std.proofs.Common.{◌≡◌, Bool, true, false, List, [], ◌∷◌, ◌++◌, refl, ap}
use Rattle.std.specs.Prelude.{ℕ, ◌&&◌, if◌then◌else◌}
use Rattle.std.specs.List.{AllByRecursion}
use Rattle.rv_isa.specs.Kinds.{is_low_part}
use Rattle.rv_isa.specs.declared.kind.Kind.{Kind}
use Rattle.rv_isa.specs.declared.kind.Kind.TheVariants as kind
use Rattle.rv_expression_laws.specs.Values.{Value}
use Rattle.rv_statement_laws.specs.Statement.{Expression}
use Rattle.rv_pseudo_laws.specs.Code.{Part as CodePart, Closed, Open as Open_part, Joined}
use Rattle.rv_unit_laws.specs.Tables.{Tables}
use Rattle.rv_source_laws.specs.Located.{Located}
use Rattle.rv_source_laws.specs.Lines.{operand_of}
use Rattle.rv_source_laws.specs.Shortened.{is_call_statement}
use Rattle.rv_assemble_laws.specs.CodeFields.{field_of, relax_fields}
use Rattle.rv_assemble_laws.specs.Templates.{Open}

abbrev pub is_jump : Kind → Bool
is_jump kind.Jal = true
is_jump kind.RvcJump = true
is_jump _ = false

abbrev pub marks : Bool → Located → List Open
marks b s = if b then relax_fields s.options.relax s.ordinal else []

abbrev pub marked : Bool → Located → List Open → List Open
marked b s fields = if b then fields ++ relax_fields s.options.relax s.ordinal else fields

abbrev pub is_marked : Kind → Located → Bool
is_marked k s = is_jump k && is_call_statement s.kind

abbrev pub part_fields : Tables → (Expression → Value) → Located → CodePart → List Open
part_fields t v s (Closed i) = []
part_fields t v s (Open_part k i) = marked (is_marked k s) s (field_of t v s.ordinal (operand_of s.kind) k)
part_fields t v s (Joined k i j) = field_of t v s.ordinal (operand_of s.kind) k ++ relax_fields s.options.relax s.ordinal

pub relaxes : (b : Bool) (ordinal : ℕ) → AllByRecursion (λ (f : Open). f.kind ≡ kind.Relax) (relax_fields b ordinal)
relaxes true ordinal = (refl, tt)
relaxes false ordinal = tt

pub marks_relax : (b : Bool) (s : Located) → AllByRecursion (λ (f : Open). f.kind ≡ kind.Relax) (marks b s)
marks_relax true s = relaxes s.options.relax s.ordinal
marks_relax false s = tt

pub marked_one : (b : Bool) (s : Located) (x : Open) (fs : List Open) → fs ≡ x ∷ [] → marked b s fs ≡ x ∷ marks b s
marked_one true s x fs e = ap (λ l. l ++ relax_fields s.options.relax s.ordinal) e
marked_one false s x fs e = e

-- a low part is no jump
pub low_unmarked : (k : Kind) → is_low_part k ≡ true → is_jump k ≡ false
low_unmarked kind.PcrelLo12I e = refl
low_unmarked kind.PcrelLo12S e = refl
low_unmarked kind.None e = absurd (cc)
low_unmarked _ e = absurd (cc)

pub low_marked : (k : Kind) (s : Located) (fs : List Open) → is_low_part k ≡ true → marked (is_marked k s) s fs ≡ fs
low_marked k s fs e = ap (λ b. marked (b && is_call_statement s.kind) s fs) (low_unmarked k e)

-- ---- what holds of all

pub marked_all : (P : Open → Type 0) (b : Bool) (s : Located) (fs : List Open) → AllByRecursion P fs → AllByRecursion P (fs ++ relax_fields s.options.relax s.ordinal) → AllByRecursion P (marked b s fs)
marked_all P true s fs h k = k
marked_all P false s fs h k = h
