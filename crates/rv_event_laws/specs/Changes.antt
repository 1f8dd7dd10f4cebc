-- What a step changes is what its event tells.

use Rattle.std.specs.Prelude.{◌≡◌, ℕ, List, ◌++◌, set, Option, Some, None}
use Rattle.rv_isa_laws.specs.Memory.{Mem, with_bytes, with_number}
use Rattle.rv_isa_laws.specs.Hart.{Hart, register}
use Rattle.rv_event_laws.specs.declared.access.Access.{Access}
use Rattle.rv_event_laws.specs.declared.access.Setting.{Setting}
use Rattle.rv_event_laws.specs.Event.{Event}

-- the memory with what was stored
abbrev pub with_stored : Option Access → Mem → Mem
with_stored None m = m
with_stored (Some x) m = with_number m x.address x.bytes x.number

-- the registers with the one that was set
abbrev pub with_set : Option Setting → List ℕ → List ℕ
with_set None registers = registers
with_set (Some x) registers = set registers x.register x.value

-- from hart h and memory m to hart g and memory n nothing else changes but pc and reservation; the
-- input that a call takes goes to a1 (register 11)
pub record Changes (e : Event) (h : Hart) (m : Mem) (g : Hart) (n : Mem) : Type 0 where
  pub memory : n ≡ with_bytes (with_stored e.stored m) (register h 11) e.taken
  pub registers : g.registers ≡ with_set e.set h.registers
  pub input : h.input ≡ e.taken ++ g.input
  pub console : g.console ≡ h.console ++ e.put
