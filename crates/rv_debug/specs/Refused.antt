-- Why no file with debug information is made.

use Rattle.std.specs.Prelude.{ℕ, ◌≡◌, ◌≤◌, ◌+◌, ◌^◌, ◌⊎◌, false, List, [], ◌∷◌, ◌++◌, length, Some, None, ⊤}
use Rattle.rv_fault.specs.declared.file_fault.FileFault.{FileFault}
use Rattle.rv_elf_laws.specs.declared.program_header.ProgramHeader.{ProgramHeader}
use Rattle.rv_elf_laws.specs.FirstFault.{first_true, open_tests}
use Rattle.rv_elf_laws.specs.Sections.{program_headers}
use Rattle.rv_map_laws.specs.declared.map.Region.{Region}
use Rattle.rv_map_laws.specs.Limits.{IsMap}
use Rattle.rv_map_laws.specs.Map.{Map}
use Rattle.rv_map_laws.specs.Text.{map_text}
use Rattle.rv_debug_laws.specs.declared.line_row.LineRow.{LineRow}
use Rattle.rv_debug_laws.specs.declared.line_row.SourceFile.{SourceFile}
use Rattle.rv_debug.specs.Table.{IsLong}
use Rattle.rv_debug.specs.declared.fault.DebugFault.{DebugFault}
use Rattle.rv_debug.specs.declared.fault.DebugFault.TheVariants as faults
use Rattle.rv_debug_laws.specs.Code.{are_by_file, code_of}
use Rattle.rv_debug_laws.specs.Stored.{can_grow, stored_at}
use Rattle.rv_debug_laws.specs.Symbols.{Names, string_table}
use Rattle.rv_debug_laws.specs.Units.{AddUnits, DebugBytes, no_debug}

-- no place of 64 bits has the bytes of a region
abbrev pub IsUnstored : List ProgramHeader → Region → Type 0
IsUnstored programs r =
    (stored_at programs r ≡ None)
    ⊎ ((place : ℕ) × (stored_at programs r ≡ Some place) × (2 ^ 64 ≤ place))

-- the executable is none behind which more can stand, or has not the bytes of the map's regions
abbrev pub IsOther : List ℕ → Map → Type 0
IsOther exe m =
    ((fault : FileFault) × (first_true (open_tests exe) ≡ Some fault))
    ⊎ ((can_grow exe ≡ false)
    ⊎ (IsUnstored (program_headers exe) m.text
    ⊎ (IsUnstored (program_headers exe) m.rodata
    ⊎ IsUnstored (program_headers exe) m.data)))

-- the numbers of a source's unit need more than 32 bits
abbrev pub IsLongUnit : (directory : List ℕ) → SourceFile → List LineRow → DebugBytes → Type 0
IsLongUnit directory source code before =
    IsLong directory (source ∷ source ∷ []) code
    ⊎ ((2 ^ 32 ≤ 33 + length source.path.now + length directory)
    ⊎ ((2 ^ 32 ≤ length before.lines) ⊎ (2 ^ 32 ≤ length before.info)))

-- behind the units of the first sources, those of the next one do
pub record HasLongUnit (m : Map) (directory : List ℕ) (sources : List SourceFile) : Type 0 where
  pub first : List SourceFile
  pub source : SourceFile
  pub rest : List SourceFile
  pub debug : DebugBytes
  pub whole : sources ≡ first ++ source ∷ rest
  pub units : AddUnits m directory 1 first no_debug debug
  pub long : IsLongUnit directory source (code_of m.text (1 + length first) m.rows) debug

-- a section of all units has 2^32 bytes or more
pub record HasLongSection (m : Map) (directory : List ℕ) (sources : List SourceFile) : Type 0
  where
    pub debug : DebugBytes
    pub units : AddUnits m directory 1 sources no_debug debug
    pub long : (2 ^ 32 ≤ length debug.lines)
        ⊎ ((2 ^ 32 ≤ length debug.info) ⊎ (2 ^ 32 ≤ length debug.ranges))

-- a number of what would be added needs more than 32 bits
abbrev pub AreLong : Map → (names : Names) → (directory : List ℕ) → List SourceFile → Type 0
AreLong m names directory sources =
    (2 ^ 32 ≤ length (string_table names))
    ⊎ (HasLongUnit m directory sources ⊎ HasLongSection m directory sources)

-- why the executable of a map gets no debug information; memory may run out whatever they are
abbrev pub IsDebugRefused : (exe : List ℕ) → Map → (names : Names) → (directory : List ℕ)
    → List SourceFile → DebugFault → Type 0
IsDebugRefused exe m names directory sources faults.NoMap = ⊥
IsDebugRefused exe m names directory sources faults.OtherExecutable = IsOther exe m
IsDebugRefused exe m names directory sources faults.RowsOutOfOrder = are_by_file 0 m.rows ≡ false
IsDebugRefused exe m names directory sources faults.TooLong =
    (2 ^ 32 ≤ length exe) ⊎ AreLong m names directory sources
IsDebugRefused exe m names directory sources faults.OutOfMemory = ⊤

-- ---- by the text of the map

-- the text is that of this map, and of no other
pub record IsTextOf (text : List ℕ) (m : Map) : Type 0 where
  pub is : text ≡ map_text m
  pub only : (other : Map) → IsMap other → text ≡ map_text other → other ≡ m

-- why the executable of a map of this text, of which these names are known, gets none
abbrev pub IsRefusedBy : (exe text : List ℕ) → (Map → Names) → (directory : List ℕ)
    → List SourceFile → DebugFault → Type 0
IsRefusedBy exe text names directory sources fault =
    (m : Map) × IsTextOf text m × IsDebugRefused exe m (names m) directory sources fault

abbrev pub IsTextRefused : (exe text : List ℕ) → (Map → Names) → (directory : List ℕ)
    → List SourceFile → DebugFault → Type 0
IsTextRefused exe text names directory sources faults.NoMap =
    (m : Map) → IsMap m → text ≡ map_text m → ⊥
IsTextRefused exe text names directory sources faults.OtherExecutable =
    IsRefusedBy exe text names directory sources faults.OtherExecutable
IsTextRefused exe text names directory sources faults.RowsOutOfOrder =
    IsRefusedBy exe text names directory sources faults.RowsOutOfOrder
IsTextRefused exe text names directory sources faults.TooLong =
    IsRefusedBy exe text names directory sources faults.TooLong
IsTextRefused exe text names directory sources faults.OutOfMemory = ⊤
