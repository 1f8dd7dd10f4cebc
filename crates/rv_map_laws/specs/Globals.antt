-- The names that every file can mean, as a map shows them (gABI, "Symbol Table"), and those
-- that the linker gives.

use Rattle.std.specs.Prelude.{◌≡◌, ℕ, ◌+◌, Bool, false, ⊤, List, [], ◌∷◌, Option, Some, None, option_map, codes, bytes_eq}
use Rattle.std.specs.List.{find, list_any}
use Rattle.rv_map_laws.specs.Map.{Map, Global}

abbrev pub global : List ℕ → ℕ → Global
global name address = record { name = name; address = address }

-- a global of this address; one without an address isn't shown
abbrev pub shown : List ℕ → Option ℕ → List Global
shown name None = []
shown name (Some address) = global name address ∷ []

-- the address of a name that every file can mean
abbrev pub global_address : List Global → List ℕ → Option ℕ
global_address globals name = option_map (λ g. g.address) (find (λ g. bytes_eq g.name name) globals)

abbrev pub is_one_of : List (List ℕ) → List ℕ → Bool
is_one_of names name = list_any (λ n. bytes_eq n name) names

-- no name stands twice in a list
abbrev pub AreDistinct : List (List ℕ) → Type 0
AreDistinct [] = ⊤
AreDistinct (name ∷ names) = (is_one_of names name ≡ false) × AreDistinct names

-- the names that the linker gives
abbrev pub linker_symbols : Map → List Global
linker_symbols m =
    global (codes "_etext") m.text.end
    ∷ global (codes "__bss_start") m.bss.start
    ∷ global (codes "_edata") m.data.end
    ∷ global (codes "_end") m.bss.end
    ∷ global (codes "__global_pointer$") (m.data.start + 0x800)
    ∷ []
