use Rattle.std.proofs.Common.{◌≡◌, ℕ, ◌<◌, length, get_or}
use Rattle.rv_machine.specs.Registers.{register_value}
use Rattle.rv_library.proofs.states.registers_of.Given as goal

-- those below this number are there
abbrev pub invariant-loop-number : goal.invariant-loop-number
invariant-loop-number l = (length l.values ≡ 32) × ((r : ℕ) → r < l.number → get_or l.values r 0 ≡ register_value l.machine.hart.registers r)
