-- What follows from the definitions of Tables, for all who cite them.

use Rattle.std.proofs.Common.{◌≡◌, ℕ, ◌+◌, ◌≤◌, ap}
use Rattle.std.proofs.lemmas.Bool.{le-leb}
use Rattle.std.specs.Prelude.{if◌then◌else◌}
use Rattle.rv_unit_laws.specs.Tables.{within, longest_section}

pub within_fits : (offset bytes : ℕ) → offset + bytes ≤ longest_section → within offset bytes ≡ bytes
within_fits offset bytes fits = ap (λ b. if b then bytes else 0) (le-leb (offset + bytes) longest_section fits)
