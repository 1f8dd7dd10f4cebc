-- What no instruction changes.

use Rattle.std.specs.Prelude.{◌≡◌, ℕ, ◌^◌, ◌<◌, length, slice_index}
use Rattle.rv_isa_laws.specs.Hart.{Hart}
use Rattle.rv_isa_laws.specs.Effect.{Effect, Goes, Loads, Stores, Reserves, Conditional, Updates, Calls, Breaks}

-- each hart with which an effect can go on has a property
abbrev pub GoesOn : (Hart → Type 0) → Effect → Type 0
GoesOn P (Goes next) = P next
GoesOn P (Loads a n next) = (v : ℕ) → P (next v)
GoesOn P (Stores a n v next) = P next
GoesOn P (Reserves a n next) = (v : ℕ) → P (next v)
GoesOn P (Conditional a n v reserved next) = P next
GoesOn P (Updates a n new next) = (v : ℕ) → P (next v)
GoesOn P (Calls next) = P next
GoesOn P Breaks = Unit {0}

-- each register is below 2 ^ 64
abbrev pub InRange : Hart → Type 0
InRange h = (r : ℕ) → slice_index h.registers r < 2 ^ 64

-- what a hart keeps of an earlier one: input, console and registers in range; and its pc is an
-- address
pub record Kept (h g : Hart) : Type 0 where
  pub input : g.input ≡ h.input
  pub console : g.console ≡ h.console
  pub pc : g.pc < 2 ^ 64
  pub count : length g.registers ≡ length h.registers
  pub below : InRange h → InRange g
