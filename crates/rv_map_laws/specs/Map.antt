-- A map as a plain value: what clauses speak of, with a list where the program keeps a vector.

use Rattle.std.specs.Prelude.{ℕ, List}
use Rattle.rv_map_laws.specs.declared.map.Region.{Region}
use Rattle.rv_map_laws.specs.declared.map.Row.{Row}
use Rattle.rv_map_laws.specs.declared.map.SectionId.{SectionId}

-- a name that every file can mean, and its address
pub record Global : Type 0 where
  pub name : List ℕ
  pub address : ℕ

-- regions and gaps from their start on and below their end; the sections that collection dropped,
-- by file and number; the rows by file and ordinal
pub record Map : Type 0 where
  pub text : Region
  pub rodata : Region
  pub «data» : Region
  pub bss : Region
  pub entry : ℕ
  pub gaps : List Region
  pub globals : List Global
  pub drops : List SectionId
  pub rows : List Row
