-- What is wanted of a build or a link, as bits of a number (include/rv.h).

use Rattle.std.specs.Prelude.{ℕ, ◌/◌, ◌%◌, ◌==◌, nat_lt, Bool}

-- each bit that is set means something
abbrev pub are_known : ℕ → Bool
are_known flags = nat_lt flags 8

-- RV_NO_RELAX, 1, is not set
abbrev pub relaxes : ℕ → Bool
relaxes flags = flags % 2 == 0

-- RV_GC_SECTIONS, 2
abbrev pub collects : ℕ → Bool
collects flags = flags / 2 % 2 == 1

-- RV_MAP, 4
abbrev pub has_map : ℕ → Bool
has_map flags = flags / 4 % 2 == 1
