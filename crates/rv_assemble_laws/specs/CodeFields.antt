-- The fields of code that stay open, for the linker to fill (RISC-V ELF psABI, "Relocations",
-- "PC-Relative Addresses" and "Linker Relaxation"; GNU as, "RISC-V-Modifiers").

use Rattle.std.specs.Prelude.{ℕ, Bool, if◌then◌else◌, List, [], ◌∷◌, ◌++◌, Option, Some, None}
use Rattle.rv_isa.specs.Kinds.{is_low_part}
use Rattle.rv_isa.specs.declared.kind.Kind.{Kind}
use Rattle.rv_isa.specs.declared.kind.Kind.TheVariants as kind
use Rattle.rv_expression_laws.specs.Expression.{Here}
use Rattle.rv_expression_laws.specs.Values.{Value, Symbolic}
use Rattle.rv_statement_laws.specs.declared.pseudo.Function.TheVariants.{PcrelLo}
use Rattle.rv_statement_laws.specs.Statement.{Operand, Value as Of_value, Applied, Target, Expression}
use Rattle.rv_pseudo_laws.specs.Code.{Part, Closed, Open as Open_part, Joined}
use Rattle.rv_unit_laws.specs.Tables.{Tables, Definition, definition}
use Rattle.rv_source_laws.specs.Located.{Located}
use Rattle.rv_source_laws.specs.Lines.{operand_of}
use Rattle.rv_assemble_laws.specs.Templates.{Open, open_at}

-- a field takes the address of a symbol with the constant beside it; what is no address has none
abbrev pub symbol_field : Kind → ℕ → Value → List Open
symbol_field k ordinal (Symbolic symbol at plus) = open_at k ordinal (Some symbol) plus ∷ []
symbol_field k ordinal _ = []

-- a low part counts from the statement that has the upper one, by its place, which has no name
abbrev pub low_field : Kind → ℕ → (plus : ℕ) → List Open
low_field k ordinal plus = open_at k ordinal (Some Here) plus ∷ []

abbrev pub low_field_at : Kind → Option Definition → (plus : ℕ) → List Open
low_field_at k None plus = []
low_field_at k (Some d) plus = low_field k d.ordinal plus

-- `%pcrel_lo` names a label, where that statement stands
abbrev pub label_field : Tables → Kind → ℕ → Value → List Open
label_field t k ordinal (Symbolic symbol at plus) =
    low_field_at k (definition t ordinal symbol) plus
label_field t k ordinal _ = []

-- the field of a statement's operand under a kind: the low part of a pair is that of the statement
-- itself
abbrev pub field_of : Tables → (Expression → Value) → ℕ → Option Operand → Kind → List Open
field_of t v ordinal (Some (Applied PcrelLo e)) k = label_field t k ordinal (v e)
field_of t v ordinal (Some (Of_value e)) k = symbol_field k ordinal (v e)
field_of t v ordinal (Some (Applied function e)) k = symbol_field k ordinal (v e)
field_of t v ordinal (Some (Target e)) k =
    if is_low_part k then low_field k ordinal 0 else symbol_field k ordinal (v e)
field_of t v ordinal operand k = []

-- a call may be shortened where relaxation is on
abbrev pub relax_fields : Bool → ℕ → List Open
relax_fields relax ordinal = if relax then open_at kind.Relax ordinal None 0 ∷ [] else []

-- those of a part, each at its start
abbrev pub part_fields : Tables → (Expression → Value) → Located → Part → List Open
part_fields t v s (Closed i) = []
part_fields t v s (Open_part k i) = field_of t v s.ordinal (operand_of s.kind) k
part_fields t v s (Joined k i j) =
    field_of t v s.ordinal (operand_of s.kind) k ++ relax_fields s.options.relax s.ordinal
