-- The maps that have a text: what their numbers and names are.

use Rattle.std.specs.Prelude.{ℕ, ◌<◌, ◌^◌, IsTrue}
use Rattle.std.specs.List.{AllByRecursion}
use Rattle.rv_map_laws.specs.declared.map.Region.{Region}
use Rattle.rv_map_laws.specs.declared.map.Row.{Row}
use Rattle.rv_map_laws.specs.declared.map.SectionId.{SectionId}
use Rattle.rv_map_laws.specs.Map.{Map, Global}
use Rattle.rv_map_laws.specs.Name.{is_name}

abbrev pub IsNumber : ℕ → Type 0
IsNumber n = n < 2 ^ 64

abbrev pub IsRegion : Region → Type 0
IsRegion r = IsNumber r.start × IsNumber r.end

abbrev pub IsGlobal : Global → Type 0
IsGlobal g = IsTrue (is_name g.name) × IsNumber g.address

abbrev pub IsDrop : SectionId → Type 0
IsDrop d = IsNumber d.file × IsNumber d.section

abbrev pub IsRow : Row → Type 0
IsRow r =
    IsNumber r.file × IsNumber r.line × IsNumber r.ordinal × IsNumber r.address × IsNumber r.bytes
    × IsNumber r.instructions

abbrev pub AreRegions : Map → Type 0
AreRegions m = IsRegion m.text × IsRegion m.rodata × IsRegion m.data × IsRegion m.bss

-- numbers below 2 ^ 64, names of one byte or more, each 21h to 7Eh; no order is asked for
pub record IsMap (m : Map) : Type 0 where
  pub text : IsRegion m.text
  pub rodata : IsRegion m.rodata
  pub «data» : IsRegion m.data
  pub bss : IsRegion m.bss
  pub entry : IsNumber m.entry
  pub gaps : AllByRecursion IsRegion m.gaps
  pub globals : AllByRecursion IsGlobal m.globals
  pub drops : AllByRecursion IsDrop m.drops
  pub rows : AllByRecursion IsRow m.rows
