-- The relocations of each section that an object keeps, as the sections of its file have them.

use Rattle.std.specs.Prelude.{ℕ, List, [], map, filter, if◌then◌else◌}
use Rattle.std.specs.Global.{Vec}
use Rattle.rv_object_types.specs.declared.relocation.Relocation.{Relocation as DeclaredRelocation}
use Rattle.rv_object_laws.specs.Object.{Relocation}
use Rattle.rv_object_types.specs.Parts.{relocation_of}
use Rattle.rv_object_file_laws.specs.Parts.{FileSection, sections, kept, is_loaded, relocates, relas_of, relocations_in}

-- those of a section in these sections; none of one that is not loaded
abbrev pub list_so_far : List ℕ → List FileSection → FileSection → List Relocation
list_so_far file before s = if is_loaded s.header
    then relocations_in (relas_of file (filter (relocates s.index) before)) else []

abbrev pub lists_so_far : List ℕ → List FileSection → List (List Relocation)
lists_so_far file before = map (list_so_far file before) (kept file)

-- in all sections
abbrev pub lists_of : List ℕ → List (List Relocation)
lists_of file = lists_so_far file (sections file)

-- lists of the code
abbrev pub lists_in : List (Vec DeclaredRelocation) → List (List Relocation)
lists_in lists = map (λ list. map relocation_of list.items) lists
