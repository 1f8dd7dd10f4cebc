-- What the names and the places of a source's statements stand for.

use Rattle.std.specs.Prelude.{◌≡◌, ℕ, List, [], ◌∷◌, map, Option, Some, None}
use Rattle.std.specs.Borrow.{Bor}
use Rattle.rv_unit_laws.specs.Tables.{Tables, at_start, tables}
use Rattle.rv_unit.specs.Unit.{said, IsFilled}
use Rattle.rv_unit.specs.Items.{offsets_of}
use Rattle.rv_source_laws.specs.Located.{located_from}
use Rattle.rv_assemble_laws.specs.LaidStatements.{LaidStatement}
use Rattle.rv_symbols.specs.Settings.{AreFirsts}
use Rattle.rv_symbols.specs.declared.source.Source.{Source}

-- a name, or none
abbrev pub optional_name : Option (Bor (List ℕ)) → List (List ℕ)
optional_name None = []
optional_name (Some name) = name.now ∷ []

-- the tables of a source
abbrev pub tables_of : Source → Tables
tables_of x = tables (said x.unit.now)

-- the source's statements stand there
pub record IsSource (x : Source) (laid : List LaidStatement) : Type 0 where
  pub filled : IsFilled x.unit.now
  pub firsts : AreFirsts x.firsts.ordinals (tables_of x).assignments
  pub located : map (λ s. s.located) laid
      ≡ located_from 1 1 (at_start (said x.unit.now)) (said x.unit.now)
  pub at : map (λ s. s.offset) laid ≡ offsets_of x.items.now

-- the section and the offset of a statement
abbrev pub place_in : LaidStatement → ℕ × ℕ
place_in s = (s.located.section, s.offset)
