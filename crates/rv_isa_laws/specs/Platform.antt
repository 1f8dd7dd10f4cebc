-- The platform that a program finds: the limits of memory.

use Rattle.std.specs.Prelude.{ℕ, ◌^◌}

-- the stack has the addresses from here on and below its end
abbrev pub stack_start : ℕ
stack_start = 0x3FF0_0000

abbrev pub stack_end : ℕ
stack_end = 0x4000_0000

-- the most bytes of memory that the segments of a program have in sum
abbrev pub memory_limit : ℕ
memory_limit = 2 ^ 28
