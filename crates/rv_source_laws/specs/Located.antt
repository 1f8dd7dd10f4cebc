-- The statements of the sources where they stand, and which of them have a row in the map (gABI,
-- "Sections"; GNU as, "Pseudo Ops"; GNU ld, "--gc-sections").

use Rattle.std.specs.Prelude.{ℕ, suc, Bool, true, false, ◌&&◌, List, [], ◌∷◌, ◌++◌, map, if◌then◌else◌}
use Rattle.rv_map_laws.specs.declared.map.SectionId.{SectionId}
use Rattle.rv_collect_laws.specs.Graph.{is_dropped}
use Rattle.rv_statement_laws.specs.Statement.{StatementKind, Label, Numbered, Instruction, Directs, Statement, Directive, Sets}
use Rattle.rv_unit_laws.specs.Contributions.{Contribution, Nothing, contribution}
use Rattle.rv_unit_laws.specs.Options.{Options}
use Rattle.rv_unit_laws.specs.Sections.{Section, section_at}
use Rattle.rv_unit_laws.specs.Tables.{Tables, at_start, after, here, stood, value_by_tables, assigned, gives_location, opened_of}

abbrev pub contributes : Contribution → Bool
contributes Nothing = false
contributes _ = true

-- `.set` has a row where it gives a place, the other directives where they contribute to their
-- section
abbrev pub is_placed_directive : Tables → ℕ → Directive → Bool
is_placed_directive t ordinal (Sets name e) =
    gives_location (assigned name ordinal (value_by_tables t false ordinal (here t) e))
is_placed_directive t ordinal d = contributes (contribution d)

-- whether a statement has a row where its section is loaded: `t` are the tables before it
abbrev pub is_placed : Tables → ℕ → StatementKind → Bool
is_placed t ordinal (Label name) = true
is_placed t ordinal (Numbered number) = true
is_placed t ordinal (Instruction mnemonic operands) = true
is_placed t ordinal (Directs directive) = is_placed_directive t ordinal directive

-- a statement: its file and its ordinal, from 1; its section, by that one's index in the file from
-- 0, and the bytes of data before it there; `home` is that section; `options` are those that the
-- statements before it set
pub record Located : Type 0 where
  pub file : ℕ
  pub ordinal : ℕ
  pub section : ℕ
  pub offset : ℕ
  pub home : Section
  pub options : Options
  pub line : ℕ
  pub kind : StatementKind
  pub placed : Bool

-- the next statement of a file
abbrev pub located_now : ℕ → ℕ → Tables → Statement → Located
located_now file ordinal t s =
    let place = stood t ordinal s.kind in
    record {
      file = file;
      ordinal = ordinal;
      section = place.section;
      offset = place.offset;
      home = section_at (opened_of (after t ordinal s.kind)) place.section;
      options = t.options;
      line = s.line;
      kind = s.kind;
      placed = is_placed t ordinal s.kind;
    }

-- the statements of a file from an ordinal on
abbrev pub located_from : ℕ → ℕ → Tables → List Statement → List Located
located_from file ordinal t [] = []
located_from file ordinal t (s ∷ ss) =
    located_now file ordinal t s ∷ located_from file (suc ordinal) (after t ordinal s.kind) ss

-- the statements by file and ordinal; files are numbered from a first one on
abbrev pub located_of : ℕ → List (List Statement) → List Located
located_of file [] = []
located_of file (ss ∷ files) = located_from file 1 (at_start ss) ss ++ located_of (suc file) files

abbrev pub located : List (List Statement) → List Located
located sources = located_of 1 sources

-- ---- without the sections that collection dropped

-- a dropped section has no address
abbrev pub without_address : Bool → Section → Section
without_address dropped s = if dropped then record s { loaded = false } else s

-- a statement of a file of which these sections are dropped, by their indices
abbrev pub masked : (dropped : ℕ → Bool) → Located → Located
masked dropped s = record s { home = without_address (dropped s.section) s.home }

abbrev pub left_of : List SectionId → Located → Located
left_of drops s = masked (is_dropped drops s.file) s

-- the statements, and which of them still stand in a section with an address
abbrev pub left : List SectionId → List (List Statement) → List Located
left drops sources = map (left_of drops) (located sources)

-- whether the map has a row for the statement
abbrev pub has_row : Located → Bool
has_row s = s.placed && s.home.loaded
