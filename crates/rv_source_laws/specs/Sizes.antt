-- How many bytes the branches of a source have: the least that reach (GNU as, "RISC-V-Directives";
-- ISA, "Conditional Branches" and "Unconditional Jumps").

use Rattle.std.specs.Prelude.{ℕ, ◌-◌, ℤ, pos, Bool, true, false, ◌&&◌, ◌==◌, nat_le, if◌then◌else◌, List, [], ◌∷◌, Option, Some, None}
use Rattle.std.specs.Int.{w64, int_wrap}
use Rattle.std.specs.List.{find}
use Rattle.rv_isa.specs.declared.operation.BranchOperation.{BranchOperation}
use Rattle.rv_isa.specs.declared.operation.BranchOperation.TheVariants.{Beq, Bne}
use Rattle.rv_expression_laws.specs.Values.{Value, Symbolic}
use Rattle.rv_statement_laws.specs.declared.mnemonic.Mnemonic.{Mnemonic}
use Rattle.rv_statement_laws.specs.declared.mnemonic.Mnemonic.TheVariants.{Branch, Jal, J, ZeroBranch, SwappedBranch, Call, Tail, Jump}
use Rattle.rv_statement_laws.specs.declared.pseudo.ZeroBranchOperation.TheVariants.{Beqz, Bnez}
use Rattle.rv_statement_laws.specs.Statement.{StatementKind, Instruction, Operand, Register, Target, Expression}
use Rattle.rv_size_laws.specs.declared.item.Forms.{Forms}
use Rattle.rv_size_laws.specs.declared.item.Forms.TheVariants.{Settled, CompressedBranch, Branch as FullBranch, CompressedJump}
use Rattle.rv_size_laws.specs.declared.item.Item.{Item}
use Rattle.rv_size_laws.specs.Branches.{IsLeastGood}
use Rattle.rv_unit_laws.specs.Tables.{Tables, Definition, sure_definition, value_by_tables}
use Rattle.rv_source_laws.specs.Located.{Located}
use Rattle.rv_source_laws.specs.Program.{place_of}

-- ---- the forms of a statement

-- c.beqz and c.bnez compare one of x8 to x15 with zero
abbrev pub is_short_register : ℕ → Bool
is_short_register r = nat_le 8 r && nat_le r 15

abbrev pub is_equality : BranchOperation → Bool
is_equality Beq = true
is_equality Bne = true
is_equality _ = false

-- whether a branch on two registers has a form of two bytes
abbrev pub is_short_branch : BranchOperation → (rs1 rs2 : ℕ) → Bool
is_short_branch operation rs1 rs2 = is_equality operation && (rs2 == 0) && is_short_register rs1

abbrev pub branch_forms : (short : Bool) → Forms
branch_forms short = if short then CompressedBranch else FullBranch

abbrev pub jump_forms : (rvc : Bool) → Forms
jump_forms rvc = if rvc then CompressedJump else Settled 4

-- the forms of a branch or a jump to a label of its own section, where compressed code is on or
-- off; a call has 8 bytes until the linker shortens it
abbrev pub near_forms : Bool → Mnemonic → List Operand → Option Forms
near_forms rvc (Branch operation) (Register rs1 ∷ Register rs2 ∷ os) =
    Some (branch_forms (rvc && is_short_branch operation rs1 rs2))
near_forms rvc (ZeroBranch Beqz) (Register rs ∷ os) =
    Some (branch_forms (rvc && is_short_register rs))
near_forms rvc (ZeroBranch Bnez) (Register rs ∷ os) =
    Some (branch_forms (rvc && is_short_register rs))
near_forms rvc (ZeroBranch operation) os = Some FullBranch
near_forms rvc (SwappedBranch operation) os = Some FullBranch
near_forms rvc Jal (Register rd ∷ Target e ∷ []) =
    if rd == 0 then Some (jump_forms rvc) else None
near_forms rvc J os = Some (jump_forms rvc)
near_forms rvc Call os = Some (Settled 8)
near_forms rvc Tail os = Some (Settled 8)
near_forms rvc Jump os = Some (Settled 8)
near_forms rvc mnemonic os = None

-- to another section or another file, or to a name for which another file's may stand, only the
-- largest
abbrev pub far_form : Forms → ℕ
far_form (Settled bytes) = bytes
far_form CompressedJump = 4
far_form _ = 8

-- ---- the target

abbrev pub target_in : List Operand → Option Expression
target_in [] = None
target_in (Target e ∷ os) = Some e
target_in (o ∷ os) = target_in os

-- where a branch surely leads: the ordinal of the statement, and what is added to its place
pub record Near : Type 0 where
  pub ordinal : ℕ
  pub addend : ℤ

-- the statement that a definition names, if it stands in the same section
abbrev pub near_at : List Located → ℕ → Option Definition → (plus : ℕ) → Option Near
near_at all section None plus = None
near_at all section (Some d) plus =
    elim (find (λ (s : Located). s.ordinal == d.ordinal) all) [
      | None ↦ None
      | Some s ↦ if s.section == section
          then Some (record { ordinal = d.ordinal; addend = int_wrap w64 (pos plus) }) else None
    ]

abbrev pub near_value : Tables → List Located → Located → Value → Option Near
near_value t all s (Symbolic symbol at plus) =
    near_at all s.section (sure_definition t s.ordinal symbol) plus
near_value t all s _ = None

abbrev pub near_target : Tables → List Located → Located → List Operand → Option Near
near_target t all s os = elim (target_in os) [
  | None ↦ None
  | Some e ↦ near_value t all s (value_by_tables t true s.ordinal (place_of s) e)
]

-- ---- the least sizes

-- the padding of an alignment in code: room for the least one wherever the code comes to stand,
-- and none up to 2
abbrev pub code_padding : Option ℕ → ℕ
code_padding None = 0
code_padding (Some alignment) = alignment - 2

abbrev pub settled : Located → ℕ → Item
settled s bytes =
    record { addend = pos 0; section = s.section; target = 0; forms = Settled bytes }

abbrev pub branch_item : Located → Forms → Option Near → Item
branch_item s forms None = settled s (far_form forms)
branch_item s forms (Some n) =
    record { addend = n.addend; section = s.section; target = n.ordinal - 1; forms = forms }

abbrev pub item_by : Tables → List Located → Located → ℕ → List Operand → Option Forms → Item
item_by t all s bytes os None = settled s bytes
item_by t all s bytes os (Some (Settled size)) = settled s size
item_by t all s bytes os (Some forms) = branch_item s forms (near_target t all s os)

-- a statement as branch sizes see it: all others have the bytes that they have
abbrev pub item_by_kind : Tables → List Located → Located → ℕ → StatementKind → Item
item_by_kind t all s bytes (Instruction mnemonic os) =
    item_by t all s bytes os (near_forms s.options.rvc mnemonic os)
item_by_kind t all s bytes kind = settled s bytes

abbrev pub items_of : Tables → List Located → List Located → List ℕ → List Item
items_of t all [] sizes = []
items_of t all (s ∷ ss) [] = []
items_of t all (s ∷ ss) (bytes ∷ sizes) =
    item_by_kind t all s bytes s.kind ∷ items_of t all ss sizes

-- the sizes of all statements of a source are the least with which each form below a statement's
-- largest reaches
abbrev pub AreLeast : Tables → List Located → (sizes : List ℕ) → Type 0
AreLeast t ss sizes = IsLeastGood (items_of t ss ss sizes) sizes
