-- Which memory a program may have: what lies beside the stack, but for the last page.

use Rattle.std.specs.Prelude.{ℕ, ◌-◌, ◌^◌, nat_lt, if◌then◌else◌}
use Rattle.rv_isa_laws.specs.Platform.{stack_start, stack_end}

-- a program ends here or before: with the last page left over, no address near its end wraps
abbrev pub highest : ℕ
highest = 2 ^ 64 - 4096

-- how far memory is free from an address on: to the stack, and behind the stack to the last page;
-- nothing is free from an address in the stack on
abbrev pub free_until : ℕ → ℕ
free_until a = if nat_lt a stack_end then stack_start else highest
