-- What a statement of data adds where it stands.

use Rattle.std.specs.Prelude.{◌≡◌, ℕ, ◌+◌, ◌==◌, Bool, List, [], ◌∷◌, ◌++◌, flat_map, length, map, Option, Some, None, if◌then◌else◌}
use Rattle.std.specs.Global.{Vec}
use Rattle.rv_isa.specs.declared.kind.Kind.{Kind}
use Rattle.rv_expression_laws.specs.Values.{Value}
use Rattle.rv_statement_laws.specs.Statement.{StatementKind, Expression}
use Rattle.rv_unit_laws.specs.Tables.{tables}
use Rattle.rv_unit.specs.Sections.{offset_of}
use Rattle.rv_unit.specs.Unit.{said, IsFilled, IsScope}
use Rattle.rv_source_laws.specs.Located.{Located}
use Rattle.rv_source_laws.specs.Program.{place_of}
use Rattle.rv_assemble_laws.specs.CodeFields.{relax_fields}
use Rattle.rv_assemble_laws.specs.Templates.{Open, Datum, value_fields}
use Rattle.rv_assemble_laws.specs.LaidStatements.{LaidPart, laid_part, part_bytes}
use Rattle.rv_assemble_laws.specs.Fields.{Field, field_at}
use Rattle.rv_instruction.specs.Code.{Shape, encoded_bytes, shape_in, MayHave}
use Rattle.rv_instruction.specs.Opened.{fields_of}
use Rattle.rv_instruction.specs.Scoped.{values_at, faults_at, AtNext}
use Rattle.rv_draft.specs.declared.data.Spot.{Spot}
use Rattle.rv_draft.specs.declared.field.OpenField.{OpenField}
use Rattle.rv_instruction.specs.declared.encoded.Coded.{Coded}
use Rattle.rv_draft.specs.declared.fields.Choices.{Choices}
use Rattle.rv_unit.specs.declared.item.Item.{Item}
use Rattle.rv_draft.specs.Code.{GrowsBy}
use Rattle.rv_draft.specs.Contents.{IsCoded}
use Rattle.rv_draft.specs.Coded.{HasBytes}
use Rattle.rv_draft.specs.Seated.{laid_of}
use Rattle.rv_draft.specs.DataParts.{data_said, fields_said, code_said}
use Rattle.rv_draft.specs.Draft.{field_of}

-- of the index from 0 of the statement
abbrev pub AtSpot : Spot → (ℕ → Type 0) → Type 0
AtSpot spot P = AtNext spot.scope.now P

-- the value of an expression there
abbrev pub value_in : Spot → ℕ → Expression → Value
value_in spot index e = values_at spot.scope.now index spot.place e

-- the parts of values of a width
abbrev pub parts_in : Spot → ℕ → ℕ → List Expression → List LaidPart
parts_in spot index width es =
    map (λ e. laid_part spot.ordinal (Datum width (value_in spot index e))) es

-- the parts of a statement that says this in so many bytes
abbrev pub said_in : Spot → StatementKind → ℕ → ℕ → List LaidPart
said_in spot says bytes index = data_said spot.ordinal (λ e. value_in spot index e) says bytes

-- the fields of a value at a place
abbrev pub own_fields : Spot → ℕ → ℕ → Value → List Field
own_fields spot place width v =
    map (field_at spot.place.section place) (value_fields spot.ordinal width v)

-- the fields of parts from an offset on, where the section is loaded
abbrev pub fields_in : Spot → ℕ → List LaidPart → List Field
fields_in spot offset ps = fields_said spot.loaded spot.place.section offset ps

-- ---- what is added, by the index of the statement

abbrev pub AddsBytes : Spot → List ℕ → List ℕ → (ℕ → List ℕ) → Type 0
AddsBytes spot old new more = AtSpot spot (λ index. new ≡ old ++ more index)

abbrev pub AddsFields : Spot → List OpenField → List OpenField → (ℕ → List Field) → Type 0
AddsFields spot old new more =
    AtSpot spot (λ index. map field_of new ≡ map field_of old ++ more index)

-- the section where the statement stands grows by the bytes of parts
abbrev pub AddsParts : Spot → List (Vec ℕ) → List (Vec ℕ) → (ℕ → List LaidPart) → Type 0
AddsParts spot old new ps =
    AtSpot spot (λ index. GrowsBy old new spot.place.section (flat_map part_bytes (ps index)))

-- ---- code

-- the statement of this index, which says this, where it stands and is coded so
pub record IsAtSpot (spot : Spot) (index : ℕ) (says : StatementKind) (choices : Choices)
    (l : Located) : Type 0 where
  pub ordinal : spot.ordinal ≡ index + 1
  pub own : l.ordinal ≡ index + 1
  pub kind : l.kind ≡ says
  pub place : place_of l ≡ offset_of spot.place
  pub compressed : l.options.rvc ≡ choices.compressed
  pub relax : l.options.relax ≡ choices.relax

-- an instruction has the bytes of its code
abbrev pub HasBytesOf : List Coded → Item → StatementKind → Type 0
HasBytesOf coded x kind = HasBytes coded x.bytes kind

-- the statement that is next there, which says this, has code of so many bytes, without a fault,
-- and may be asked for it
pub record IsMadeAt (spot : Spot) (says : StatementKind) (rvc : Bool) (bytes : ℕ) : Type 0 where
  pub index : ℕ
  pub filled : IsFilled spot.scope.now.unit.now
  pub next : IsScope spot.scope.now index
  pub sound : faults_at spot.scope.now index spot.place says ≡ []
  pub offered : MayHave rvc says bytes
  pub coded : List Coded
  pub is : IsCoded (λ e. value_in spot index e) rvc says coded
  pub long : HasBytes coded bytes says

-- the open fields of a statement that stands as its item says and has this code
abbrev pub code_fields : Spot → Located → Item → List Coded → List Field
code_fields spot l x coded =
    fields_in spot x.offset
    (code_said (tables (said spot.scope.now.unit.now)) (laid_of l x coded) l.kind)

-- ---- the open fields of parts, by their shapes

-- the fields under a kind, where there is one
abbrev pub kind_opens : (Kind → List Open) → Option Kind → List Open
kind_opens fields None = []
kind_opens fields (Some k) = fields k

-- what is added at two instructions
abbrev pub pair_opens : List Open → ℕ → List Open
pair_opens more instructions = if instructions == 2 then more else []

-- those of a part, by those under its kind, and those of a call
abbrev pub shape_opens : (Kind → List Open) → List Open → Shape → List Open
shape_opens fields more s = kind_opens fields s.kind ++ pair_opens more s.instructions

-- those of code from a place of a section on, part by part
abbrev pub coded_fields : (Kind → List Open) → List Open → ℕ → ℕ → List Coded → List Field
coded_fields fields more section place [] = []
coded_fields fields more section place (c ∷ cs) =
    map (field_at section place) (shape_opens fields more (shape_in c))
    ++ coded_fields fields more section (place + length (encoded_bytes c.encoded)) cs

-- the fields under a kind of the statement of this index, which says this
abbrev pub own_opens : Spot → ℕ → StatementKind → Kind → List Open
own_opens spot index says k =
    fields_of (tables (said spot.scope.now.unit.now)) (λ e. value_in spot index e) spot.ordinal
    says k

-- the same of a part of this shape, and of all its code from a place on
abbrev pub opens_in : Spot → ℕ → StatementKind → Bool → Shape → List Open
opens_in spot index says relax s =
    shape_opens (own_opens spot index says) (relax_fields relax spot.ordinal) s

abbrev pub fields_coded : Spot → ℕ → StatementKind → Bool → ℕ → List Coded → List Field
fields_coded spot index says relax place found =
    coded_fields (own_opens spot index says) (relax_fields relax spot.ordinal) spot.place.section
    place found

-- fields that are added at a place
abbrev pub AddsAt : Spot → ℕ → List OpenField → List OpenField → List Open → Type 0
AddsAt spot place old new more =
    map field_of new ≡ map field_of old ++ map (field_at spot.place.section place) more

-- of the index from 0 of the statement whose ordinal it is
abbrev pub AtOwn : Spot → (ℕ → Type 0) → Type 0
AtOwn spot P = AtSpot spot (λ index. spot.ordinal ≡ index + 1 → P index)
