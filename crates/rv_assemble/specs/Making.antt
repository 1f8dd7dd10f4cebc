-- What the parts of an object are made of: rows of items, relocations of fields with numbers,
-- sections of their parts.

use Rattle.std.specs.Prelude.{◌≡◌, ℕ, ◌+◌, ◌==◌, true, List, [], ◌∷◌, ◌++◌, length, map, drop, slice_get, Option, Some, None, if◌then◌else◌}
use Rattle.std.specs.Global.{Vec}
use Rattle.rv_expression_laws.specs.Expression.{Primary}
use Rattle.rv_unit_laws.specs.Sections.{Section as SourceSection}
use Rattle.rv_unit.specs.declared.section.Extent.{Extent}
use Rattle.rv_unit.specs.Sections.{extent_section}
use Rattle.rv_object_laws.specs.declared.row.Row.{Row}
use Rattle.rv_object_types.specs.declared.relocation.Relocation.{Relocation as DeclaredRelocation}
use Rattle.rv_object_laws.specs.Object.{Relocation, Section}
use Rattle.rv_object_types.specs.Parts.{relocation_of}
use Rattle.rv_object_laws.specs.Valid.{is_section_alignment, is_string, keeps_name, is_even, is_loaded_alone, fit_inside, are_paddings}
use Rattle.rv_assemble_laws.specs.Fields.{Field}
use Rattle.rv_assemble_laws.specs.IsObjectOf.{contents_of}
use Rattle.rv_unit.specs.declared.item.Item.{Item}

-- ---- rows

abbrev pub item_row : ℕ → Item → Row
item_row ordinal i = record {
  line = i.line;
  ordinal = ordinal;
  section = i.section;
  offset = i.offset;
  bytes = i.bytes;
  instructions = i.instructions;
}

abbrev pub item_rows : ℕ → Item → List Row
item_rows ordinal i = if i.shown then item_row ordinal i ∷ [] else []

-- the rows of items from an ordinal on
abbrev pub rows_from : ℕ → List Item → List Row
rows_from ordinal [] = []
rows_from ordinal (i ∷ is) = item_rows ordinal i ++ rows_from (ordinal + 1) is

-- ---- relocations

-- a field with the index of its symbol, if it has one
abbrev pub field_relocation : Field → Option ℕ → Relocation
field_relocation f n =
    record { place = f.place; kind = f.kind; symbol = n; addend = f.addend }

abbrev pub relocations_at : ℕ → Field → Option ℕ → List Relocation
relocations_at section f n = if f.section == section then field_relocation f n ∷ [] else []

-- those of a section, of fields with their indices
abbrev pub relocations_in : ℕ → List Field → List (Option ℕ) → List Relocation
relocations_in section (f ∷ fs) (n ∷ ns) =
    relocations_at section f n ++ relocations_in section fs ns
relocations_in section _ _ = []

-- where symbols have numbers in the order of their fields, that of the next field
abbrev pub index_of : Option Primary → List ℕ → Option ℕ
index_of None ns = None
index_of (Some q) ns = slice_get ns 0

abbrev pub next_of : Option Primary → ℕ → ℕ
next_of None n = n
next_of (Some q) n = n + 1

abbrev pub indices_of : List Field → List ℕ → List (Option ℕ)
indices_of [] ns = []
indices_of (f ∷ fs) ns = index_of f.symbol ns ∷ indices_of fs (drop (next_of f.symbol 0) ns)

abbrev pub list_of : Vec DeclaredRelocation → List Relocation
list_of v = map relocation_of v.items

-- ---- sections

abbrev pub section_by : SourceSection → ℕ → ℕ → List ℕ → List Relocation → Section
section_by home alignment stop bytes rs = record {
  name = home.name;
  loaded = home.loaded;
  executable = home.executable;
  writable = home.writable;
  contents = contents_of home.section_type stop bytes;
  alignment = alignment;
  relocations = rs;
}

-- what every section of an object keeps
pub record IsMakeable (x : Section) : Type 0 where
  pub named : is_string x.name ≡ true
  pub kept : keeps_name x.contents x.name ≡ true
  pub aligned : is_section_alignment x.alignment ≡ true
  pub even : is_even x.executable x.contents ≡ true
  pub alone : is_loaded_alone x.loaded x.relocations ≡ true
  pub inside : fit_inside x.contents x.relocations ≡ true
  pub paddings : are_paddings x.executable x.contents x.relocations ≡ true

-- the sections of a source with the ends, the bytes and the relocations of each
abbrev pub sections_by : List Extent → List ℕ → List (Vec ℕ) → List (Vec DeclaredRelocation) →
    List Section
sections_by (e ∷ es) (n ∷ ns) (b ∷ bs) (r ∷ rs) =
    section_by (extent_section e) e.alignment n b.items (list_of r) ∷ sections_by es ns bs rs
sections_by _ _ _ _ = []

-- one each
abbrev pub AreEach : List Extent → List ℕ → List (Vec ℕ) → List (Vec DeclaredRelocation) → Type 0
AreEach es ns bs rs =
    (length ns ≡ length es) × (length bs ≡ length es) × (length rs ≡ length es)
