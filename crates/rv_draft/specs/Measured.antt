-- How many bytes one statement has, after others of its section.

use Rattle.std.specs.Prelude.{◌≡◌, ℕ, ◌+◌, ◌*◌, ◌≤◌, Bool, true, false, ⊤, length, Option}
use Rattle.rv_expression_laws.specs.Values.{Value, Constant}
use Rattle.rv_statement_laws.specs.Statement.{StatementKind, Label, Numbered, Instruction, Directs, Expression, Directive, Data, Values, Strings, Zeros, Aligns, Emits}
use Rattle.rv_unit_laws.specs.Tables.{alignment_of, padding, string_bytes, longest_section}
use Rattle.rv_unit.specs.declared.section.Extent.{Extent}
use Rattle.rv_assemble_laws.specs.Coded.{is_constant}
use Rattle.rv_draft.specs.declared.item.CodeSize.{CodeSize}
use Rattle.rv_unit.specs.declared.item.Item.{Item}
use Rattle.rv_assemble_laws.specs.LaidStatements.{IsMultiple}
use Rattle.rv_draft.specs.Sized.{IsItemPadded, IsAligned, IsSized, IsSizedDirective, size_bytes}

-- `bytes` bytes of data after `offset` others
abbrev pub stretch : ℕ → ℕ → Item
stretch offset bytes = record {
  section = 0;
  offset = offset;
  bytes = bytes;
  line = 0;
  shown = true;
  instructions = 0;
}

-- the bytes of a statement that has a place, by the values of its expressions: in a section of code
-- or not, that asks to begin at this multiple, after `offset` bytes; an instruction has the size of
-- its code
abbrev pub IsSize : (Expression → Value) → Bool → ℕ → ℕ → CodeSize → StatementKind → ℕ → Type 0
IsSize v executable begins offset size (Label name) bytes = bytes ≡ 0
IsSize v executable begins offset size (Numbered number) bytes = bytes ≡ 0
IsSize v executable begins offset size (Instruction mnemonic operands) bytes =
    bytes ≡ size_bytes size
IsSize v executable begins offset size (Directs directive) bytes =
    IsSizedDirective v executable size (stretch offset bytes) begins directive

-- an alignment can be had: its section begins at a multiple of it, and one of data has the padding
abbrev pub CanPad : Bool → ℕ → ℕ → Option ℕ → Type 0
CanPad true begins offset alignment = IsMultiple alignment begins
CanPad false begins offset alignment =
    IsMultiple alignment begins × (padding alignment offset ≤ longest_section)

-- a value is a constant, and its alignment can be had
abbrev pub CanAlign : Value → Bool → ℕ → ℕ → Option ℕ → Type 0
CanAlign v executable begins offset alignment =
    (is_constant v ≡ true) × CanPad executable begins offset alignment

-- a count of bytes that a section can have
abbrev pub CanCount : Value → Type 0
CanCount v = (n : ℕ) × (v ≡ Constant n) × (n ≤ longest_section)

-- data has a size that a section can have, by the values of its expressions
abbrev pub CanHold : (Expression → Value) → Data → Type 0
CanHold v (Values width values) = width * length values ≤ longest_section
CanHold v (Strings ended strings) = length (string_bytes ended strings) ≤ longest_section
CanHold v (Zeros count) = CanCount (v count)

-- a statement has a size, by the values of its expressions: in a section of code or not, that asks
-- to begin at this multiple, after `offset` bytes
abbrev pub CanSizeDirective : (Expression → Value) → Bool → ℕ → ℕ → Directive → Type 0
CanSizeDirective v executable begins offset (Emits contents) = CanHold v contents
CanSizeDirective v executable begins offset (Aligns form e) =
    CanAlign (v e) executable begins offset (alignment_of v (Aligns form e))
CanSizeDirective v executable begins offset _ = ⊤

abbrev pub CanSize : (Expression → Value) → Bool → ℕ → ℕ → StatementKind → Type 0
CanSize v executable begins offset (Directs directive) =
    CanSizeDirective v executable begins offset directive
CanSize v executable begins offset _ = ⊤

-- and its section has room for it, where its code has this size
pub record HasRoom (v : Expression → Value) (executable : Bool) (begins offset : ℕ)
    (code : CodeSize) (says : StatementKind) : Type 0 where
  pub size : CanSize v executable begins offset says
  pub room : (n : ℕ) → IsSize v executable begins offset code says n → offset + n ≤ longest_section

-- ---- in a section with its bytes and the multiple at which it asks to begin

abbrev pub PadsIn : Extent → CodeSize → ℕ → ℕ → Option ℕ → Type 0
PadsIn e size offset bytes alignment =
    IsItemPadded e.section.executable size (stretch offset bytes) e.alignment alignment

abbrev pub CanPadIn : Extent → ℕ → Option ℕ → Type 0
CanPadIn e offset alignment = CanPad e.section.executable e.alignment offset alignment

abbrev pub AlignsIn : Extent → CodeSize → Value → ℕ → ℕ → Option ℕ → Type 0
AlignsIn e size v offset bytes alignment =
    IsAligned v e.section.executable size (stretch offset bytes) e.alignment alignment

abbrev pub CanAlignIn : Extent → Value → ℕ → Option ℕ → Type 0
CanAlignIn e v offset alignment =
    CanAlign v e.section.executable e.alignment offset alignment

abbrev pub IsSizeIn : Extent → (Expression → Value) → ℕ → CodeSize → StatementKind → ℕ → Type 0
IsSizeIn e v offset code kind bytes =
    IsSize v e.section.executable e.alignment offset code kind bytes

abbrev pub CanSizeIn : Extent → (Expression → Value) → ℕ → StatementKind → Type 0
CanSizeIn e v offset kind = CanSize v e.section.executable e.alignment offset kind

abbrev pub HasRoomIn : Extent → (Expression → Value) → ℕ → CodeSize → StatementKind → Type 0
HasRoomIn e v offset code kind = HasRoom v e.section.executable e.alignment offset code kind

-- the item of a statement that has a place
abbrev pub IsSizedIn : Extent → (Expression → Value) → Item → CodeSize → StatementKind → Type 0
IsSizedIn e v x code kind = IsSized v e.section.executable x e.alignment code kind
