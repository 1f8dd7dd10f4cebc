-- What follows from the definitions of Tables, for all who cite them.

use Rattle.std.proofs.Common.{◌≡◌, ℕ, ◌+◌, ◌≤◌, Bool, true, false, nat_le, []}
use Rattle.std.proofs.lemmas.Bool.{leb-true, not-false}
use Rattle.std.specs.Prelude.{not}
use Rattle.rv_unit_laws.specs.Tables.{longest_section}
use Rattle.rv_unit_laws.specs.Faults.{past_section}
use Rattle.rv_source_laws.proofs.HeldLemmas.{no_test}

pub past_fits : (executable : Bool) (offset bytes : ℕ) → executable ≡ false → past_section executable offset bytes ≡ [] → offset + bytes ≤ longest_section
past_fits true offset bytes e none = absurd (cc)
past_fits false offset bytes e none =
    leb-true (offset + bytes) longest_section (not-false (nat_le (offset + bytes) longest_section) (no_test (not (nat_le (offset + bytes) longest_section)) 17 none))
