-- What the statements of a raw listing stand for: the instruction of each line, by the parts of its
-- code (RISC-V Unprivileged ISA 20191213, chapters 16 and 24; RISC-V ELF psABI, "Relocations").

use Rattle.std.specs.Prelude.{◌≡◌, ℕ, ℤ, pos, Option, Some, None}
use Rattle.rv_isa.specs.declared.instruction.Inst.{Inst}
use Rattle.rv_isa.specs.declared.instruction.Format.{Format}
use Rattle.rv_isa.specs.declared.instruction.Format.TheVariants.{Branch, Jal}
use Rattle.rv_isa.specs.declared.kind.Kind.{Kind}
use Rattle.rv_isa.specs.declared.kind.Kind.TheVariants as kind
use Rattle.rv_isa.specs.declared.operation.BranchOperation.TheVariants.{Beq, Bne}
use Rattle.rv_isa.specs.Operations.{of_branch, format_of, instruction_of}
use Rattle.rv_parcel.specs.declared.form.Compressed.{Compressed}
use Rattle.rv_parcel.specs.declared.form.Compressed.TheVariants.{J, Beqz, Bnez}
use Rattle.rv_parcel.specs.Parcel.{expansion}
use Rattle.rv_size_laws.specs.declared.item.Forms.{Forms}
use Rattle.rv_size_laws.specs.declared.item.Forms.TheVariants.{Settled, Branch as LongBranch}
use Rattle.rv_size_laws.specs.declared.item.Item.{Item}
use Rattle.rv_size_laws.specs.Offsets.{IsImmediate}
use Rattle.rv_pseudo_laws.specs.Code.{Part, Closed, Open, Constants, b_type, jal}
use Rattle.rv_pseudo_laws.specs.Filled.{FieldValue}
use Rattle.rv_listing_laws.specs.declared.code.Code.{Code}
use Rattle.rv_listing_laws.specs.declared.code.Code.TheVariants.{Word, Parcel}
use Rattle.rv_raw_theorems.specs.Statements.{constant_expression, IsSmall}

-- by these constants numbers stand for themselves
abbrev pub KnowsNumbers : Constants → Type 0
KnowsNumbers v = (z : ℤ) → IsSmall z → v (constant_expression z) ≡ Some z

-- how many bytes of code there are, and the instruction
abbrev pub code_width : Code → ℕ
code_width (Word i) = 4
code_width (Parcel form) = 2

abbrev pub instruction_at : Code → Inst
instruction_at (Word i) = i
instruction_at (Parcel form) = expansion form

-- its code: the field of a branch or a jump stays open, all others have one closed instruction
abbrev pub word_part : Format → Part
word_part (Branch operation x) =
    Open kind.Branch (of_branch operation (b_type x.rs1 x.rs2 (pos 0)))
word_part (Jal x) = Open kind.Jal (jal x.rd)
word_part format = Closed (instruction_of format)

abbrev pub parcel_part : Compressed → Part
parcel_part (J i) = Open kind.RvcJump (jal 0)
parcel_part (Beqz rs1 i) = Open kind.RvcBranch (of_branch Beq (b_type rs1 0 (pos 0)))
parcel_part (Bnez rs1 i) = Open kind.RvcBranch (of_branch Bne (b_type rs1 0 (pos 0)))
parcel_part form = Closed (expansion form)

abbrev pub part_of : Code → Part
part_of (Word i) = word_part (format_of i)
part_of (Parcel form) = parcel_part form

-- the form of a parcel that its statement names
abbrev pub named_in_parcel : Compressed → Option Compressed
named_in_parcel (J i) = None
named_in_parcel (Beqz rs1 i) = None
named_in_parcel (Bnez rs1 i) = None
named_in_parcel form = Some form

abbrev pub named_by : Code → Option Compressed
named_by (Word i) = None
named_by (Parcel form) = named_in_parcel form

-- the open field of a branch or a jump takes how far it leads
abbrev pub Leads : FieldValue → ℕ → Format → Type 0
Leads value address (Branch operation x) = (k : Kind) → value k address ≡ x.offset
Leads value address (Jal x) = (k : Kind) → value k address ≡ x.offset
Leads value address format = Unit {0}

-- an item of a settled size, or a branch to `.` and a distance in its range
abbrev pub LeadsFrom : ℕ → Forms → (target : ℕ) → (addend : ℤ) → Type 0
LeadsFrom index (Settled bytes) target addend = Unit {0}
LeadsFrom index LongBranch target addend = (target ≡ index) × IsImmediate 4096 addend
LeadsFrom index forms target addend = ⊥

abbrev pub LeadsFromItself : ℕ → Item → Type 0
LeadsFromItself index item = LeadsFrom index item.forms item.target item.addend
