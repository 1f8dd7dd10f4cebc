-- The values of the expressions of sources, at the map of their executable.

use Rattle.std.specs.Prelude.{◌≡◌, ℕ, List}
use Rattle.rv_statement_laws.specs.Statement.{Statement}
use Rattle.rv_map_laws.specs.Map.{Map}
use Rattle.rv_map_laws.specs.Text.{map_text}
use Rattle.rv_source_laws.specs.Fits.{Fits}
use Rattle.rv_source_laws.specs.Program.{program}
use Rattle.rv_value_theorems.specs.Sites.{ArePlain}
use Rattle.rv_chain_laws.specs.Headline.{AllRead}

-- what the texts read as, at the map that these bytes show: each value is plain arithmetic
pub record AreValued (texts : List (List ℕ)) (text_start : ℕ) (map_bytes : List ℕ) : Type 0 where
  pub sources : List (List Statement)
  pub read : AllRead texts sources
  pub map : Map
  pub shown : map_bytes ≡ map_text map
  pub fits : Fits sources map text_start
  pub plain : ArePlain (program sources map)
