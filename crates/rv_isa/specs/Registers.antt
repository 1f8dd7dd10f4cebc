-- Which names spell registers (RISC-V ELF psABI, integer register convention).

use Rattle.std.specs.Prelude.{ℕ, zero, suc, List, [], ◌∷◌, ◌++◌, Bool, false, ◌||◌, ◌==◌, codes, Option, Some, None, is_some, slice_get, option_to_list, if◌then◌else◌}
use Rattle.std.specs.Str.{bytes_eq}
use Rattle.rv_isa.specs.RegisterNames.{abi_names, decimal}

-- the word is in the list
abbrev pub is_among : List (List ℕ) → List ℕ → Bool
is_among [] word = false
is_among (w ∷ ws) word = bytes_eq w word || is_among ws word

-- the names of a register: by number, by the ABI, and `fp` for x8
unfoldable pub register_names : ℕ → List (List ℕ)
register_names r =
    (codes "x" ++ decimal r) ∷
    (option_to_list (slice_get abi_names r) ++ (if r == 8 then codes "fp" ∷ [] else []))

-- the register below this number that has the name
abbrev pub register_below : ℕ → List ℕ → Option ℕ
register_below zero name = None
register_below (suc n) name =
    if is_among (register_names n) name then Some n else register_below n name

-- the register of a name
unfoldable pub register : List ℕ → Option ℕ
register name = register_below 32 name

-- the name spells a register
abbrev pub is_register : List ℕ → Bool
is_register name = is_some (register name)
