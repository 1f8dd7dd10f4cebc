-- Sections and objects with calls cut out of them, each by the moves of its calls.

use Rattle.std.specs.Prelude.{◌≡◌, ◌⊎◌, ⊤, ℕ, ◌+◌, ◌-◌, ◌%◌, ◌==◌, Bool, true, false, IsTrue, ◌&&◌, ◌||◌, nat_le, List, [], ◌∷◌, length, map, Option, Some, None, unwrap_or, if◌then◌else◌}
use Rattle.std.specs.List.{find, slice_get}
use Rattle.rv_isa.specs.declared.kind.Kind.{Kind}
use Rattle.rv_isa.specs.declared.kind.Kind.TheVariants as kinds
use Rattle.rv_object_laws.specs.declared.symbol.Definition.{Definition}
use Rattle.rv_object_laws.specs.declared.symbol.Definition.TheVariants as definitions
use Rattle.rv_object_laws.specs.declared.row.Row.{Row}
use Rattle.rv_object_laws.specs.Object.{Relocation, Section, Symbol, Object, size_of}
use Rattle.rv_object_laws.specs.Valid.{fit_inside, are_paddings}
use Rattle.rv_link_laws.specs.Moves.{Move, new_offset, lost}
use Rattle.rv_link_laws.specs.CallSites.{is_call, meets}
use Rattle.rv_link_laws.specs.Shortened.{shortened_contents}
use Rattle.rv_link_laws.specs.Lists.{In}

-- ---- the cuts of a section

-- behind an offset and within so many bytes, a call at an even offset
-- of which `jal` or `c.j` is left
abbrev pub is_cut : (stop size : ℕ) → Move → Bool
is_cut stop size m =
    nat_le stop m.place
    && (nat_le (m.place + 8) size
    && ((m.place % 2 == 0) && ((m.full == 8) && ((length m.text == 2) || (length m.text == 4)))))

-- one behind the other
abbrev pub are_cuts : (stop size : ℕ) → List Move → Bool
are_cuts stop size [] = true
are_cuts stop size (m ∷ ms) = is_cut stop size m && are_cuts (m.place + 8) size ms

-- a relocation that is no call at a cut meets none
abbrev pub IsClear : List Move → Relocation → Type 0
IsClear ms r = (m : Move) → In m ms →
    ((IsTrue (is_call r.kind) × (m.place ≡ r.place)) ⊎ (meets m.place r ≡ false))

-- calls of the section, and no field but theirs meets them
pub record AreCuts (s : Section) (ms : List Move) : Type 0 where
  pub order : are_cuts 0 (size_of s.contents) ms ≡ true
  pub calls : (m : Move) → In m ms → (r : Relocation)
      × In r s.relocations × IsTrue (is_call r.kind) × (r.place ≡ m.place)
  pub clear : (r : Relocation) → In r s.relocations → IsClear ms r

-- ---- what is left

abbrev pub cut_at : List Move → ℕ → Option Move
cut_at ms place = find (λ m. m.place == place) ms

abbrev pub kind_left : Kind → Option Move → Kind
kind_left kind None = kind
kind_left kind (Some m) = if length m.text == 2 then kinds.RvcJump else kinds.Jal

abbrev pub cut_kind : List Move → Relocation → Kind
cut_kind ms r = if is_call r.kind then kind_left r.kind (cut_at ms r.place) else r.kind

abbrev pub cut_relocation : List Move → Relocation → Relocation
cut_relocation ms r = record {
  place = new_offset ms r.place;
  kind = cut_kind ms r;
  symbol = r.symbol;
  addend = r.addend;
}

abbrev pub cut_section : List Move → Section → Section
cut_section ms s = record s {
  contents = shortened_contents ms s.contents;
  relocations = map (cut_relocation ms) s.relocations;
}

-- ---- what sections keep

-- each field lies in the section's bytes
abbrev pub fits : Section → Bool
fits s = fit_inside s.contents s.relocations

-- each padding lies there, and in code meets no field
abbrev pub keeps_paddings : Section → Bool
keeps_paddings s = are_paddings s.executable s.contents s.relocations

-- ---- objects, by the moves of each section

abbrev pub moves_at : List (List Move) → ℕ → List Move
moves_at mss index = unwrap_or (slice_get mss index) []

abbrev pub cut_sections : List (List Move) → List Section → List Section
cut_sections mss [] = []
cut_sections [] (s ∷ ss) = []
cut_sections (ms ∷ mss) (s ∷ ss) = cut_section ms s ∷ cut_sections mss ss

abbrev pub cut_definition : List (List Move) → Definition → Definition
cut_definition mss (definitions.InSection section offset) =
    definitions.InSection section (new_offset (moves_at mss section) offset)
cut_definition mss definitions.Undefined = definitions.Undefined
cut_definition mss (definitions.Absolute n) = definitions.Absolute n
cut_definition mss (definitions.Skipped n) = definitions.Skipped n

abbrev pub cut_symbol : List (List Move) → Symbol → Symbol
cut_symbol mss s = record s { definition = cut_definition mss s.definition }

abbrev pub cut_row : List Move → Row → Row
cut_row ms r = record r {
  offset = new_offset ms r.offset;
  bytes = new_offset ms (r.offset + r.bytes) - new_offset ms r.offset;
  instructions = r.instructions - lost ms r.offset r.bytes;
}

-- by the moves of its section
abbrev pub cut_row_of : List (List Move) → Row → Row
cut_row_of mss r = cut_row (moves_at mss r.section) r

abbrev pub cut_object : List (List Move) → Object → Object
cut_object mss o = record {
  sections = cut_sections mss o.sections;
  symbols = map (cut_symbol mss) o.symbols;
  rows = map (cut_row_of mss) o.rows;
  rvc = o.rvc;
}

abbrev pub AllCut : List Section → List (List Move) → Type 0
AllCut [] [] = ⊤
AllCut [] (ms ∷ mss) = ⊥
AllCut (s ∷ ss) [] = ⊥
AllCut (s ∷ ss) (ms ∷ mss) = AreCuts s ms × AllCut ss mss
