-- The statements of a source where they stand in its object: their offsets, sizes and templates
-- (gABI, "Sections").

use Rattle.std.specs.Prelude.{◌≡◌, ℕ, ◌+◌, ◌*◌, ◌%◌, ◌<◌, Bool, true, false, ◌==◌, ⊤, List, [], ◌∷◌, length, filter, flat_map, map, Option, Some, None, unwrap_or}
use Rattle.rv_expression_laws.specs.Values.{Value}
use Rattle.rv_statement_laws.specs.Statement.{StatementKind, Label, Numbered, Instruction, Directs, Expression, Directive, Aligns, Emits}
use Rattle.rv_unit_laws.specs.Tables.{Tables, value_by_tables, alignment_of, padding, HasDataSize}
use Rattle.rv_unit_laws.specs.Contributions.{contribution}
use Rattle.rv_object_laws.specs.Padding.{operations_in}
use Rattle.rv_pseudo_laws.specs.Code.{Part as CodePart, code}
use Rattle.rv_source_laws.specs.Located.{Located}
use Rattle.rv_source_laws.specs.Program.{place_of}
use Rattle.rv_source_laws.specs.Sizes.{code_padding}
use Rattle.rv_assemble_laws.specs.CodeFields.{part_fields}
use Rattle.rv_assemble_laws.specs.Coded.{is_constant, constants, IsCode}
use Rattle.rv_assemble_laws.specs.Templates.{Open, Template, Coded, contribution_templates, template_bytes}

-- a statement of a source alone, the bytes before it in its section, how many bytes it has, how
-- many instructions these are, and the bytes of its code, part by part
pub record LaidStatement : Type 0 where
  pub located : Located
  pub offset : ℕ
  pub bytes : ℕ
  pub instructions : ℕ
  pub coded : List (List ℕ)

-- what an expression of a statement is in its file
abbrev pub expression_value : Tables → Located → Expression → Value
expression_value t s e = value_by_tables t true s.ordinal (place_of s) e

-- a part of a section's bytes, with the ordinal of the statement that says it
pub record LaidPart : Type 0 where
  pub ordinal : ℕ
  pub template : Template

abbrev pub laid_part : ℕ → Template → LaidPart
laid_part ordinal template = record { ordinal = ordinal; template = template }

-- the code of a statement part by part, each with its open fields
abbrev pub coded_templates : (CodePart → List Open) → List CodePart → List (List ℕ) → List Template
coded_templates fields [] coded = []
coded_templates fields (p ∷ ps) [] = []
coded_templates fields (p ∷ ps) (bytes ∷ coded) =
    Coded bytes (fields p) ∷ coded_templates fields ps coded

abbrev pub templates : Tables → LaidStatement → StatementKind → List Template
templates t s (Label name) = []
templates t s (Numbered number) = []
templates t s (Instruction mnemonic operands) =
    let v = expression_value t s.located in
    coded_templates (part_fields t v s.located)
    (unwrap_or (code (constants v) s.located.options.rvc s.bytes mnemonic operands) []) s.coded
templates t s (Directs directive) =
    contribution_templates s.located.home.executable s.located.ordinal
    (expression_value t s.located) (contribution directive) s.bytes

abbrev pub parts_of : Tables → LaidStatement → List LaidPart
parts_of t s = map (laid_part s.located.ordinal) (templates t s s.located.kind)

abbrev pub part_bytes : LaidPart → List ℕ
part_bytes p = template_bytes p.template

-- ---- sections

-- the statements of a section, by its index
abbrev pub laid_in : ℕ → List LaidStatement → List LaidStatement
laid_in section laid = filter (λ s. s.located.section == section) laid

-- the parts of a section: those of its statements, in order
abbrev pub parts : Tables → List LaidStatement → List LaidPart
parts t laid = flat_map (parts_of t) laid

-- each statement of a section begins where the one before ends, from an offset on, and has the
-- bytes of its templates
abbrev pub Tile : Tables → ℕ → List LaidStatement → Type 0
Tile t offset [] = ⊤
Tile t offset (s ∷ ss) =
    (s.offset ≡ offset) × (s.bytes ≡ length (flat_map part_bytes (parts_of t s)))
    × Tile t (offset + s.bytes) ss

-- the end of the last of them
abbrev pub end_of : ℕ → List LaidStatement → ℕ
end_of offset [] = offset
end_of offset (s ∷ ss) = end_of (offset + s.bytes) ss

-- ---- sizes

-- the section begins at a multiple of each alignment in it
abbrev pub IsMultiple : Option ℕ → ℕ → Type 0
IsMultiple None start = ⊤
IsMultiple (Some alignment) start = (0 < alignment) × (start % alignment ≡ 0)

-- the padding of an alignment: in code instructions, as many bytes as it may ever need; in data up
-- to the multiple
abbrev pub IsPaddedIn : Bool → LaidStatement → Option ℕ → Type 0
IsPaddedIn true s alignment =
    (s.bytes ≡ code_padding alignment) × (s.instructions ≡ operations_in s.bytes)
IsPaddedIn false s alignment = (s.bytes ≡ padding alignment s.offset) × (s.instructions ≡ 0)

abbrev pub IsPadded : LaidStatement → ℕ → Value → Option ℕ → Type 0
IsPadded s multiple v alignment =
    (is_constant v ≡ true) × IsMultiple alignment multiple
    × IsPaddedIn s.located.home.executable s alignment

abbrev pub DirectiveSize : (Expression → Value) → LaidStatement → ℕ → Directive → Type 0
DirectiveSize v s multiple (Emits contents) =
    (s.instructions ≡ 0) × HasDataSize v contents s.bytes
DirectiveSize v s multiple (Aligns form e) =
    IsPadded s multiple (v e) (alignment_of v (Aligns form e))
DirectiveSize v s multiple _ = (s.bytes ≡ 0) × (s.instructions ≡ 0)

-- the bytes of a statement of a section that begins at such a multiple, and how many instructions
-- they are
abbrev pub HasSize : (Expression → Value) → LaidStatement → ℕ → StatementKind → Type 0
HasSize v s multiple (Label name) = (s.bytes ≡ 0) × (s.instructions ≡ 0)
HasSize v s multiple (Numbered number) = (s.bytes ≡ 0) × (s.instructions ≡ 0)
HasSize v s multiple (Instruction mnemonic operands) =
    IsCode v s.located.options.rvc mnemonic operands s.bytes s.coded s.instructions
HasSize v s multiple (Directs directive) = DirectiveSize v s multiple directive
