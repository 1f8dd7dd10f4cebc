-- The row of an address.

use Rattle.std.specs.Prelude.{ℕ, ◌==◌, ◌&&◌, nat_lt, Bool}
use Rattle.rv_map_laws.specs.declared.map.Row.{Row}

-- a row with bytes that starts there
abbrev pub starts_at : ℕ → Row → Bool
starts_at address row = row.address == address && nat_lt 0 row.bytes
