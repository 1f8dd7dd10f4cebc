-- The indices of a source's symbols.

use Rattle.std.specs.Prelude.{◌≡◌, ◌+◌, ◌^◌, ◌<◌, ℕ, List, length, map}
use Rattle.rv_statement.specs.View.{now_of}
use Rattle.rv_object_laws.specs.Object.{Symbol}
use Rattle.rv_symbols.specs.Indices.{AreNameIndices, ArePlaceIndices}
use Rattle.rv_symbols.specs.declared.numbers.Indices.{Indices}

-- the indices of these symbols, and of these names after them
pub record AreIndices (x : Indices) (own : List Symbol) (after : List (List ℕ)) : Type 0 where
  pub counted : x.count ≡ length own
  pub named : AreNameIndices x.names own
  pub placed : ArePlaceIndices x.places own
  pub later : map now_of x.missing.now.keys ≡ after

-- a relocation can hold the index of each
abbrev pub AreFew : Indices → Type 0
AreFew x = x.count + length x.missing.now.keys < 2 ^ 32
