-- What follows from the definitions of Sections, for all who cite them.

use Rattle.std.proofs.Common.{◌≡◌, ℕ, ◌+◌, ◌≤◌, false, List, length, arith}
use Rattle.std.proofs.lemmas.Bool.Decides.{nat_tests}
use Rattle.rv_elf_laws.specs.Sections.{is_past}

pub not_past : (file : List ℕ) (place size : ℕ) → place + size ≤ length file → is_past file place size ≡ false
not_past file place size h = grind (arith, nat_tests)
