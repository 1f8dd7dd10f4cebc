-- What the statements of a source contribute to sections of data: bytes, and fields that stay open.

use Rattle.std.specs.Prelude.{◌≡◌, ℕ, ◌+◌, ◌*◌, ◌≤◌, Bool, true, false, not, ◌&&◌, ⊤, List, [], ◌∷◌, ◌++◌, flat_map, map, drop, length, if◌then◌else◌}
use Rattle.std.specs.Global.{Vec}
use Rattle.rv_expression_laws.specs.Values.{Value}
use Rattle.rv_statement_laws.specs.Statement.{StatementKind, Label, Numbered, Instruction, Directs, Expression, Statement, Values, Aligns, Emits}
use Rattle.rv_unit_laws.specs.Contributions.{contribution}
use Rattle.rv_unit_laws.specs.Sections.{Section, is_nobits}
use Rattle.rv_unit_laws.specs.Tables.{Tables, at_start, tables, longest_section}
use Rattle.rv_source_laws.specs.Located.{Located, located_from}
use Rattle.rv_assemble_laws.specs.Refusals.{code_faults_at}
use Rattle.rv_assemble_laws.specs.Templates.{Template, padding_templates, contribution_templates}
use Rattle.rv_assemble_laws.specs.LaidStatements.{LaidStatement, LaidPart, expression_value, laid_part, part_bytes, laid_in, templates}
use Rattle.rv_assemble_laws.specs.Fields.{Field, fields_from}
use Rattle.rv_draft.specs.declared.field.OpenField.{OpenField}
use Rattle.rv_draft.specs.declared.item.CodeSize.{CodeSize}
use Rattle.rv_unit.specs.declared.item.Item.{Item}
use Rattle.rv_instruction.specs.declared.encoded.Coded.{Coded}
use Rattle.rv_draft.specs.Code.{bytes_in, sizes_of}
use Rattle.rv_instruction.specs.Code.{MayHave}
use Rattle.rv_draft.specs.Coded.{AreCoded, IsCodedAt, HasBytes}
use Rattle.rv_draft.specs.Draft.{field_of}
use Rattle.rv_draft.specs.Items.{AreItems}
use Rattle.rv_draft.specs.Seated.{laid_from}
use Rattle.rv_draft.specs.Sized.{AreSized}

-- a section of data that has its bytes in the file
abbrev pub is_filled : Section → Bool
is_filled home = not home.executable && not (is_nobits home)

-- ---- one statement

-- the templates of data of an ordinal, by the values of its expressions, in so many bytes
abbrev pub data_templates : ℕ → (Expression → Value) → StatementKind → ℕ → List Template
data_templates ordinal v (Label name) bytes = []
data_templates ordinal v (Numbered number) bytes = []
data_templates ordinal v (Instruction mnemonic operands) bytes = []
data_templates ordinal v (Directs directive) bytes =
    contribution_templates false ordinal v (contribution directive) bytes

abbrev pub data_said : ℕ → (Expression → Value) → StatementKind → ℕ → List LaidPart
data_said ordinal v says bytes = map (laid_part ordinal) (data_templates ordinal v says bytes)

-- the open fields of parts from an offset of a section on, where that one is loaded
abbrev pub fields_said : Bool → ℕ → ℕ → List LaidPart → List Field
fields_said loaded section offset ps = if loaded then fields_from section offset ps else []

-- values of data end where a section may end
abbrev pub HasRoomFor : StatementKind → ℕ → Type 0
HasRoomFor says offset =
    (width : ℕ) (values : List Expression) → says ≡ Directs (Emits (Values width values))
    → offset + width * length values ≤ longest_section

-- ---- the statements of a source

abbrev pub data_parts : Tables → LaidStatement → List LaidPart
data_parts t s =
    if is_filled s.located.home
    then data_said s.located.ordinal (λ e. expression_value t s.located e) s.located.kind s.bytes
    else []

-- whether a statement is an alignment
abbrev pub is_alignment : StatementKind → Bool
is_alignment (Directs (Aligns form e)) = true
is_alignment says = false

-- the parts of padding in code
abbrev pub padding_said : ℕ → ℕ → List LaidPart
padding_said ordinal bytes = map (laid_part ordinal) (padding_templates true ordinal bytes)

-- the parts of an instruction, and of an alignment in code
abbrev pub code_said : Tables → LaidStatement → StatementKind → List LaidPart
code_said t s (Instruction mnemonic operands) =
    map (laid_part s.located.ordinal) (templates t s (Instruction mnemonic operands))
code_said t s kind = if is_alignment kind then padding_said s.located.ordinal s.bytes else []

-- the parts whose fields may stay open: those of code, and of data
abbrev pub open_parts : Tables → LaidStatement → List LaidPart
open_parts t s =
    if s.located.home.executable then code_said t s s.located.kind else data_parts t s

abbrev pub open_fields : Tables → LaidStatement → List Field
open_fields t s =
    fields_said s.located.home.loaded s.located.section s.offset (open_parts t s)

-- the bytes of data that statements have in a section
abbrev pub data_bytes : Tables → ℕ → List LaidStatement → List ℕ
data_bytes t section laid_statements =
    flat_map part_bytes (flat_map (data_parts t) (laid_in section laid_statements))

-- the laid statements of a source with these items and this code
abbrev pub laid_statements : List Statement → List Item → List (List Coded) → List LaidStatement
laid_statements ss is codes = laid_from (located_from 1 1 (at_start ss) ss) is codes

-- the items stand in their sections, and have their sizes
pub record IsLaid (ss : List Statement) (is : List Item) : Type 0 where
  pub last : ℕ → ℕ
  pub items : AreItems 1 (at_start ss) (λ j. 0) ss is last
  pub sizes : List CodeSize
  pub sized : AreSized (tables ss) 1 (at_start ss) ss is sizes
  pub low : (j : ℕ) → last j ≤ longest_section

-- the items have this code
pub record HaveCode (ss : List Statement) (is : List Item)
    (codes : List (List Coded)) : Type 0 where
  pub coded : AreCoded (tables ss) (located_from 1 1 (at_start ss) ss) codes
  pub sized : AreSized (tables ss) 1 (at_start ss) ss is
      (sizes_of (tables ss) (located_from 1 1 (at_start ss) ss) codes)

-- a statement has code of so many bytes, without a fault, and may be asked for it
pub record IsMade (t : Tables) (s : Located) (bytes : ℕ) : Type 0 where
  pub sound : code_faults_at t s ≡ []
  pub offered : MayHave s.options.rvc s.kind bytes
  pub coded : List Coded
  pub is : IsCodedAt t s coded
  pub long : HasBytes coded bytes s.kind

-- each statement in the bytes of its item
abbrev pub AreMade : Tables → List Located → List Item → Type 0
AreMade t (s ∷ ss) (i ∷ is) = IsMade t s i.bytes × AreMade t ss is
AreMade t ss is = ⊤

-- what is there so far, from these sections on, and what the statements from an index on
-- contribute, make up the whole
pub record IsDataTo (ss : List Statement) (is : List Item) (codes : List (List Coded))
    (start : List (Vec ℕ)) (i : ℕ) (sections : List (Vec ℕ)) (found : List OpenField) : Type 0 where
  pub bytes : (j : ℕ) →
      bytes_in sections j ++ data_bytes (tables ss) j (drop i (laid_statements ss is []))
      ≡ bytes_in start j ++ data_bytes (tables ss) j (laid_statements ss is [])
  pub fields : map field_of found
      ++ flat_map (open_fields (tables ss)) (drop i (laid_statements ss is codes))
      ≡ flat_map (open_fields (tables ss)) (laid_statements ss is codes)

-- all of it
pub record IsData (ss : List Statement) (is : List Item) (codes : List (List Coded))
    (start sections : List (Vec ℕ)) (found : List OpenField) : Type 0 where
  pub bytes : (j : ℕ) → bytes_in sections j
      ≡ bytes_in start j ++ data_bytes (tables ss) j (laid_statements ss is [])
  pub fields : map field_of found ≡ flat_map (open_fields (tables ss)) (laid_statements ss is codes)
