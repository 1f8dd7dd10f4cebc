-- Names that objects define twice for all files (gABI, "Symbol Table", STB_GLOBAL).

use Rattle.std.specs.Prelude.{ℕ, List, [], ◌∷◌, ◌++◌, Option, Some, None, if◌then◌else◌}
use Rattle.rv_map_laws.specs.Globals.{is_one_of}
use Rattle.rv_object_laws.specs.Object.{Object}
use Rattle.rv_link_laws.specs.Names.{global_names}

-- the first of these names that stands before it, there or among others
abbrev pub first_again : List (List ℕ) → List (List ℕ) → Option (List ℕ)
first_again others [] = None
first_again others (name ∷ names) =
    if is_one_of others name then Some name else first_again (others ++ name ∷ []) names

-- the name of the first global definition that is a second one of its name
abbrev pub first_duplicate : List Object → Option (List ℕ)
first_duplicate os = first_again [] (global_names os)
