-- The symbols of an object, as its file has them (gABI, "Symbol Table").

use Rattle.std.specs.Prelude.{ℕ, List, [], drop, Option, Some, None}
use Rattle.rv_fault.specs.declared.file_fault.FileFault.{FileFault}
use Rattle.rv_elf_laws.specs.declared.symbol.Symbol.{Symbol}
use Rattle.rv_elf_laws.specs.FirstFault.{first_true, open_tests}
use Rattle.rv_elf_laws.specs.Sections.{symbols_in}
use Rattle.rv_debug_laws.specs.Carried.{symbol_bytes_in}

-- symbol 0 is none; what is no object has none
abbrev pub records_by : List ℕ → Option FileFault → List Symbol
records_by file (Some fault) = []
records_by file None = drop 1 (symbols_in (symbol_bytes_in file))

abbrev pub symbol_records : List ℕ → List Symbol
symbol_records file = records_by file (first_true (open_tests file))
