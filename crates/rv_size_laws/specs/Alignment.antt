-- Alignment (gABI, "Sections": sh_addralign).

use Rattle.std.specs.Prelude.{ℕ, ◌+◌, ◌-◌, ◌*◌, ◌/◌}

-- the least multiple of an alignment that is not below a number
abbrev pub aligned : ℕ → ℕ → ℕ
aligned alignment n = (n + (alignment - 1)) / alignment * alignment
