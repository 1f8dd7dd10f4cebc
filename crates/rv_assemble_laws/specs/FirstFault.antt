-- The first fault of a source.

use Rattle.std.specs.Prelude.{ℕ, ⊤, List, ◌⊎◌}
use Rattle.rv_fault.specs.declared.source_fault.SourceCode.{SourceCode}
use Rattle.rv_fault.specs.declared.source_fault.SourceFault.{SourceFault}
use Rattle.rv_fault.specs.declared.source_fault.SourceFault.TheVariants.{At, OutOfMemory}
use Rattle.rv_fault.specs.SourceFault.{source_fault_number}
use Rattle.rv_statement_laws.specs.Statement.{Statement}
use Rattle.rv_parse_laws.specs.Reading.{Reads}
use Rattle.rv_parse_laws.specs.Refusals.{Refuses}
use Rattle.rv_assemble_laws.specs.Refusals.{IsStatementsFault}

-- the text reads as statements for which this is the fault
abbrev pub IsReadFault : List ℕ → SourceCode → ℕ → Type 0
IsReadFault text code line =
    (ss : List Statement) × Reads text ss
    × IsStatementsFault ss (record { code = source_fault_number code; line = line })

-- a fault of the text; else one of its statements. Memory may run out anywhere
abbrev pub IsFirstFault : List ℕ → SourceFault → Type 0
IsFirstFault text (At code line) =
    Refuses text (record { code = source_fault_number code; line = line })
    ⊎ IsReadFault text code line
IsFirstFault text OutOfMemory = ⊤
