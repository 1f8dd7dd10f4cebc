-- The strings of a table of names, which of them a map can show,
-- and the names of a file's sections.

use Rattle.std.specs.Prelude.{ℕ, suc, ◌^◌, ◌==◌, Bool, false, not, List, [], ◌∷◌, Option, None, Some, if◌then◌else◌}
use Rattle.rv_elf_laws.specs.Sections.{names_section, indexed_contents}
use Rattle.rv_map_laws.specs.Name.{is_name, is_name_byte}

-- where the last string of a table ends: behind its last zero byte
abbrev pub strings_end : List ℕ → ℕ
strings_end [] = 0
strings_end (byte ∷ bytes) =
    if strings_end bytes == 0 then (if byte == 0 then 1 else 0) else suc (strings_end bytes)

-- a byte that no map shows
abbrev pub is_unshown : ℕ → Bool
is_unshown byte = not (is_name_byte byte)

-- a string that ends, and that a map can show
abbrev pub can_show : Option (List ℕ) → Bool
can_show None = false
can_show (Some name) = is_name name

-- the names of a file's sections; where no section has them each offset has a name,
-- and that is empty
abbrev pub names_table : List ℕ → List ℕ
names_table file =
    if names_section file == 0 then [] else indexed_contents file (names_section file)

abbrev pub names_end : List ℕ → ℕ
names_end file = if names_section file == 0 then 2 ^ 32
    else strings_end (indexed_contents file (names_section file))
