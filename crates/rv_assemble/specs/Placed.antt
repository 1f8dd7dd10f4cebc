-- Where the first fault of a source stands.

use Rattle.std.specs.Prelude.{◌≡◌, ⊤, ℕ, ◌+◌, List}
use Rattle.rv_expression_laws.specs.Lexing.{Token, Lexes}
use Rattle.rv_fault.specs.declared.source_fault.SourceFault.{SourceFault}
use Rattle.rv_fault.specs.declared.source_fault.SourceFault.TheVariants.{At, OutOfMemory}
use Rattle.rv_fault.specs.SourceFault.{source_fault_number}
use Rattle.rv_statement_laws.specs.Statement.{Statement}
use Rattle.rv_parse_laws.specs.Reading.{Reads}
use Rattle.rv_parse_laws.specs.Refusals.{RefusesAt}
use Rattle.rv_parse.specs.Offsets.{BeginsAt}
use Rattle.rv_assemble_laws.specs.Refusals.{IsStatementsFault}
use Rattle.rv_assemble.specs.declared.placed.Culprit.{Culprit}
use Rattle.rv_assemble.specs.declared.placed.Culprit.TheVariants.{Byte, Statement as Faulty}
use Rattle.rv_assemble.specs.declared.placed.PlacedFault.{PlacedFault}
use Rattle.rv_assemble.specs.Ordinals.{IsRefusedFor}

-- the statement of this ordinal, from 1, begins at this offset of the text
abbrev pub BeginsIn : List ℕ → List Statement → (ordinal offset : ℕ) → Type 0
BeginsIn text ss ordinal offset =
    (ts : List Token) × Lexes text ts × (index : ℕ) × (ordinal ≡ index + 1)
    × BeginsAt ts ss index offset

-- the text has a fault at this byte; or it reads as statements of which one is at fault
abbrev pub IsCulprit : List ℕ → (code line : ℕ) → Culprit → Type 0
IsCulprit text code line (Byte offset) =
    RefusesAt text offset (record { code = code; line = line })
IsCulprit text code line (Faulty ordinal offset) =
    (ss : List Statement) × Reads text ss × IsRefusedFor ss code ordinal line
    × BeginsIn text ss ordinal offset

abbrev pub IsPlaced : List ℕ → PlacedFault → Type 0
IsPlaced text f = IsCulprit text (source_fault_number f.code) f.line f.culprit

-- statements are refused with this fault, unless memory ran out
abbrev pub AreRefused : List Statement → SourceFault → Type 0
AreRefused ss (At code line) =
    IsStatementsFault ss (record { code = source_fault_number code; line = line })
AreRefused ss OutOfMemory = ⊤
