-- The indices of symbols by their names and by their places.

use Rattle.std.specs.Prelude.{◌≡◌, ℕ, List, bytes_eq}
use Rattle.std.specs.Borrow.{Bor}
use Rattle.std.specs.HashMap.{HashMap, get, get_by}
use Rattle.std.specs.declared.hash.FoldHasher.{FoldHasher}
use Rattle.std.specs.declared.hash.BuildHasherDefault.{BuildHasherDefault}
use Rattle.rv_object_laws.specs.Object.{Symbol}
use Rattle.rv_symbols.specs.Numbers.{last_index, is_at_place}
use Rattle.rv_assemble_laws.specs.Symbols.{is_named}
use Rattle.rv_symbols.specs.Found.{same_place}

-- numbers by name
abbrev pub NumbersByName : Type 0
NumbersByName = HashMap (Bor (List ℕ)) ℕ (BuildHasherDefault FoldHasher)

abbrev pub PlaceIndices : Type 0
PlaceIndices = HashMap (ℕ × ℕ) ℕ (BuildHasherDefault FoldHasher)

-- a name has the index of the last symbol of that name
abbrev pub AreNameIndices : NumbersByName → List Symbol → Type 0
AreNameIndices m xs =
    (q : Bor (List ℕ)) → get_by (λ k. bytes_eq q.now k.now) m ≡ last_index (is_named q.now) xs

-- a place that of the last symbol there without a name
abbrev pub ArePlaceIndices : PlaceIndices → List Symbol → Type 0
ArePlaceIndices m xs = (q : ℕ × ℕ) → get same_place m q ≡ last_index (is_at_place q.0 q.1) xs
