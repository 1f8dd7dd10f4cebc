-- The table of the code: which names it has, and where.

use Rattle.std.specs.Prelude.{◌≡◌, ℕ, ◌+◌, List, [], ◌∷◌, ◌++◌, length, flat_map, bytes_eq, Option, Some, None, option_map, if◌then◌else◌}
use Rattle.std.specs.List.{list_any}
use Rattle.std.specs.Borrow.{Bor}
use Rattle.indexmap.specs.IndexMap.{get_by}
use Rattle.rv_object_writer.specs.declared.strings.StringTable.{StringTable}

-- each string with a zero byte behind it
abbrev pub terminated : List (List ℕ) → List ℕ
terminated strings = flat_map (λ name. name ++ 0 ∷ []) strings

-- a string more, unless it is there
abbrev pub with_string : List (List ℕ) → List ℕ → List (List ℕ)
with_string strings name =
    if list_any (bytes_eq name) strings then strings else strings ++ name ∷ []

-- the offset of the string that equals a name
abbrev pub found_in : List (List ℕ) → List ℕ → Option ℕ
found_in [] name = None
found_in (s ∷ ss) name =
    if bytes_eq s name then Some 0 else option_map (λ o. length s + 1 + o) (found_in ss name)

-- the table has these strings, in this order
pub record IsStringTable (strings : List (List ℕ)) (t : StringTable) : Type 0 where
  pub all : t.bytes.items ≡ terminated strings
  pub found : (name : List ℕ) →
      get_by (λ (k : Bor (List ℕ)). bytes_eq name k.now) t.offsets ≡ found_in strings name
