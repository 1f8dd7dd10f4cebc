-- What the statements of a source are in an object: bytes with open fields left zero, and the
-- relocations that fill them (RISC-V ELF psABI, "Relocations"; GNU as, "Pseudo Ops").

use Rattle.std.specs.Prelude.{◌≡◌, ℕ, zero, suc, ℤ, pos, Bool, true, false, ◌==◌, ⊤, ◌⊎◌, if◌then◌else◌, List, [], ◌∷◌, map, Option, Some, None}
use Rattle.std.specs.Int.{w64, int_wrap}
use Rattle.rv_isa.specs.declared.kind.Kind.{Kind}
use Rattle.rv_isa.specs.declared.kind.Kind.TheVariants.{Align, Abs32, Abs64, Add8, Add16, Add32, Add64, Sub8, Sub16, Sub32, Sub64}
use Rattle.rv_isa_laws.specs.Bytes.{little_endian, zeros}
use Rattle.rv_expression_laws.specs.Expression.{Primary}
use Rattle.rv_expression_laws.specs.Values.{Value, Constant, Symbolic, Difference, Faulty}
use Rattle.rv_statement_laws.specs.Statement.{Expression, Data, Values, Strings, Zeros}
use Rattle.rv_unit_laws.specs.Contributions.{Contribution, Nothing, Bytes, Alignment}
use Rattle.rv_unit_laws.specs.Tables.{string_bytes}
use Rattle.rv_object_laws.specs.Padding.{no_operations}

-- ---- open fields

-- a field that stays open, by what it takes, the symbol as the statement of this ordinal names it,
-- if there is one, and the addend, which wraps
pub record Open : Type 0 where
  pub kind : Kind
  pub ordinal : ℕ
  pub symbol : Option Primary
  pub addend : ℤ

abbrev pub open_at : Kind → ℕ → Option Primary → ℕ → Open
open_at kind ordinal symbol plus =
    record {
      kind = kind;
      ordinal = ordinal;
      symbol = symbol;
      addend = int_wrap w64 (pos plus);
    }

abbrev pub opened : ℕ → Kind → Primary → ℕ → Open
opened ordinal kind symbol plus = open_at kind ordinal (Some symbol) plus

-- ---- templates

-- a part of a statement's bytes
pub data Template : Type 0 where
  -- bytes that the statement says
  Fixed : (bytes : List ℕ) → Template
  -- a value of data in so many bytes
  Datum : (width : ℕ) (value : Value) → Template
  -- code, with the fields of it that stay open
  Coded : (bytes : List ℕ) (fields : List Open) → Template

-- the address of a symbol in a field of so many bytes
abbrev pub absolute_kind : ℕ → Kind
absolute_kind width = if width == 4 then Abs32 else Abs64

-- an address added to a field of so many bytes, or taken off
abbrev pub add_kind : ℕ → Kind
add_kind width =
    if width == 1 then Add8 else
    if width == 2 then Add16 else
    if width == 4 then Add32 else Add64

abbrev pub subtract_kind : ℕ → Kind
subtract_kind width =
    if width == 1 then Sub8 else
    if width == 2 then Sub16 else
    if width == 4 then Sub32 else Sub64

-- a constant is written; an address or a difference is left zero
abbrev pub value_bytes : ℕ → Value → List ℕ
value_bytes width (Constant n) = little_endian width n
value_bytes width _ = zeros width

-- an address is one relocation; of a difference first the symbol that is added, with the constant,
-- and then the other
abbrev pub value_fields : (ordinal width : ℕ) → Value → List Open
value_fields ordinal width (Constant n) = []
value_fields ordinal width (Symbolic symbol at plus) =
    opened ordinal (absolute_kind width) symbol plus ∷ []
value_fields ordinal width (Difference symbol minus plus) =
    opened ordinal (add_kind width) symbol plus
    ∷ opened ordinal (subtract_kind width) minus 0 ∷ []
value_fields ordinal width (Faulty code) = []

abbrev pub template_bytes : Template → List ℕ
template_bytes (Fixed bytes) = bytes
template_bytes (Datum width value) = value_bytes width value
template_bytes (Coded bytes fields) = bytes

-- those of a template of the statement of this ordinal
abbrev pub template_fields : (ordinal : ℕ) → Template → List Open
template_fields ordinal (Fixed bytes) = []
template_fields ordinal (Datum width value) = value_fields ordinal width value
template_fields ordinal (Coded bytes fields) = fields

-- a value of data has a relocation of its width: an address in 4 or 8 bytes, a difference in 1, 2,
-- 4 or 8
abbrev pub IsWide : ℕ → Type 0
IsWide width = (width ≡ 4) ⊎ (width ≡ 8)

abbrev pub IsWidth : ℕ → Type 0
IsWidth width = (width ≡ 1) ⊎ ((width ≡ 2) ⊎ IsWide width)

abbrev pub HasField : ℕ → Value → Type 0
HasField width (Constant n) = ⊤
HasField width (Symbolic symbol at plus) = IsWide width
HasField width (Difference symbol minus plus) = IsWidth width
HasField width (Faulty code) = ⊥

abbrev pub IsTemplate : Template → Type 0
IsTemplate (Fixed bytes) = ⊤
IsTemplate (Datum width value) = HasField width value
IsTemplate (Coded bytes fields) = ⊤

-- ---- paddings

-- its size is the addend of an ALIGN
abbrev pub align_field : (ordinal bytes : ℕ) → Open
align_field ordinal bytes =
    record { kind = Align; ordinal = ordinal; symbol = None; addend = pos bytes }

-- in code a padding is instructions without effect under an ALIGN, in data zeros
abbrev pub padding_templates : (executable : Bool) (ordinal bytes : ℕ) → List Template
padding_templates true ordinal zero = []
padding_templates true ordinal (suc n) =
    Coded (no_operations (suc n)) (align_field ordinal (suc n) ∷ []) ∷ []
padding_templates false ordinal bytes = Fixed (zeros bytes) ∷ []

-- ---- the templates of directives

abbrev pub templates_of_data : (Expression → Value) → Data → ℕ → List Template
templates_of_data v (Values width values) bytes = map (λ e. Datum width (v e)) values
templates_of_data v (Strings ended strings) bytes = Fixed (string_bytes ended strings) ∷ []
templates_of_data v (Zeros count) bytes = Fixed (zeros bytes) ∷ []

-- of a directive of this ordinal, in a section of code or of data
abbrev pub contribution_templates :
    (executable : Bool) (ordinal : ℕ) → (Expression → Value) → Contribution → ℕ → List Template
contribution_templates executable ordinal v Nothing bytes = []
contribution_templates executable ordinal v (Bytes contents) bytes =
    templates_of_data v contents bytes
contribution_templates executable ordinal v (Alignment form number) bytes =
    padding_templates executable ordinal bytes
