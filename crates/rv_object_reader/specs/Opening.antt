-- The tests of a file before its sections: of its header, its type and its tables.

use Rattle.std.specs.Prelude.{ℕ, ◌==◌, Bool, not, List, ◌∷◌, ◌++◌}
use Rattle.rv_fault.specs.declared.file_fault.FileFault.{FileFault}
use Rattle.rv_fault.specs.declared.file_fault.FileFault.TheVariants.{NotObject}
use Rattle.rv_elf_laws.specs.Fields.{number_in, e_type}
use Rattle.rv_elf_laws.specs.FirstFault.{header_tests, table_tests}
use Rattle.rv_elf_laws.specs.Numbers.{et_rel}

unfoldable pub opening_tests : List ℕ → List (Bool × FileFault)
opening_tests file =
    header_tests file ++ ((not (number_in e_type 0 file == et_rel), NotObject) ∷ table_tests file)
