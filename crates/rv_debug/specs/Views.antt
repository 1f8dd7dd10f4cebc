-- What the code's own sections stand for.

use Rattle.std.specs.Prelude.{ℕ, ◌≡◌, ◌+◌, ◌<◌, ◌^◌, List, ◌++◌, length, take, drop, map, flat_map}
use Rattle.std.specs.List.{AllByRecursion}
use Rattle.rv_elf_laws.specs.Fields.{bytes_of, e_shoff, e_shentsize, e_shnum, e_shstrndx, section_header_size}
use Rattle.rv_map_laws.specs.Limits.{IsRegion}
use Rattle.rv_map_laws.specs.Map.{Map}
use Rattle.rv_labels.specs.declared.described.Described.{Described as DeclaredDescribed}
use Rattle.rv_labels.specs.declared.known.KnownName.{KnownName as DeclaredName}
use Rattle.rv_labels.specs.Known.{described_of, known_of}
use Rattle.rv_table_names.specs.declared.tabled.Tabled.{Tabled as DeclaredTabled}
use Rattle.rv_table_names.specs.Tables.{Tabled}
use Rattle.rv_table_names.specs.Views.{tabled_of}
use Rattle.rv_debug_laws.specs.declared.line_row.SourceFile.{SourceFile}
use Rattle.rv_debug_laws.specs.File.{UnloadedPiece, Places, section_total, shstrtab_index}
use Rattle.rv_debug_laws.specs.Labels.{Described}
use Rattle.rv_debug_laws.specs.Symbols.{IsKnownName, KnownName, Names, string_table, symbol_table}
use Rattle.rv_debug_laws.specs.Units.{AddUnits, DebugBytes, no_debug}
use Rattle.rv_debug.specs.declared.piece.Piece.{Piece as DeclaredPiece}
use Rattle.rv_debug.specs.declared.units.DebugSections.{DebugSections}
use Rattle.rv_debug.specs.declared.writing.StoredPlaces.{StoredPlaces}
use Rattle.rv_debug.specs.declared.writing.Tables.{Tables}

abbrev pub piece_of : DeclaredPiece → UnloadedPiece
piece_of p = record {
  name = p.name;
  kind = p.kind;
  link = p.link;
  info = p.info;
  alignment = p.alignment;
  entry_size = p.entry_size;
  bytes = p.bytes.now;
}

abbrev pub unloaded_of : List DeclaredPiece → List UnloadedPiece
unloaded_of pieces = map piece_of pieces

abbrev pub known_list : List DeclaredName → List KnownName
known_list names = map known_of names

abbrev pub plain_objects : List DeclaredDescribed → List Described
plain_objects objects = map described_of objects

abbrev pub plain_tables : List DeclaredTabled → List Tabled
plain_tables objects = map tabled_of objects

abbrev pub debug_of : DebugSections → DebugBytes
debug_of d = record { lines = d.lines.items; info = d.info.items; ranges = d.ranges.items }

abbrev pub places_of : StoredPlaces → Places
places_of p = record { text = p.text; rodata = p.rodata; «data» = p.data }

-- the contents of sections, one after another
abbrev pub piece_bytes : List UnloadedPiece → List ℕ
piece_bytes pieces = flat_map (λ p. p.bytes) pieces

-- the header of an executable, but for the four fields that lead to a table of section headers
abbrev pub front_with : List ℕ → ℕ → List ℕ
front_with exe table =
    take 40 exe ++ (bytes_of e_shoff table ++ (take 10 (drop 48 exe)
    ++ (bytes_of e_shentsize section_header_size ++ (bytes_of e_shnum section_total
    ++ bytes_of e_shstrndx shstrtab_index))))

-- numbers of 64 bits
pub record AreBounded (m : Map) (at : Places) : Type 0 where
  pub text : IsRegion m.text × (at.text < 2 ^ 64)
  pub rodata : IsRegion m.rodata × (at.rodata < 2 ^ 64)
  pub «data» : IsRegion m.data × (at.data < 2 ^ 64)
  pub bss : IsRegion m.bss

-- tables whose sizes and counts have 32 bits; symbols are longer than their names
pub record AreShort (t : Tables) : Type 0 where
  pub locals : 1 + t.locals < 2 ^ 32
  pub symbols : length t.symbols.items < 2 ^ 40
  pub strings : length t.strings.items < 2 ^ 32
  pub lines : length t.debug.lines.items < 2 ^ 32
  pub info : length t.debug.info.items < 2 ^ 32
  pub ranges : length t.debug.ranges.items < 2 ^ 32

-- the tables of a map, its names and its sources
pub record AreTables (m : Map) (names : Names) (directory : List ℕ)
    (sources : List SourceFile) (t : Tables) : Type 0 where
  pub locals : t.locals ≡ length names.labels
  pub symbols : t.symbols.items ≡ symbol_table m names
  pub strings : t.strings.items ≡ string_table names
  pub units : AddUnits m directory 1 sources no_debug (debug_of t.debug)
  pub short : AreShort t
  pub labelled : AllByRecursion IsKnownName names.labels
  pub known : AllByRecursion IsKnownName names.globals
