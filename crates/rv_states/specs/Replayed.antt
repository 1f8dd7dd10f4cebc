-- The states of a run (ISA, 1.5).

use Rattle.std.specs.Prelude.{◌≡◌, ℕ, Bool, true, false, List, [], Option, Some, None, ⊤}
use Rattle.rv_isa.specs.declared.instruction.Inst.{Inst}
use Rattle.rv_isa_laws.specs.Word.{Spells}
use Rattle.rv_parcel.specs.Parcel.{StandsFor}
use Rattle.rv_isa_laws.specs.Memory.{Mem}
use Rattle.rv_isa_laws.specs.Hart as laws
use Rattle.rv_isa_laws.specs.Reader.{Reader}
use Rattle.rv_machine.specs.declared.end.End.{End}
use Rattle.rv_machine.specs.declared.end.End.TheVariants.{Limit}
use Rattle.rv_machine.specs.declared.hart.Hart.{Hart}
use Rattle.rv_machine.specs.Hart.{hart_of}
use Rattle.rv_machine.specs.LastState.{last_state}

-- a hart without what has been written
abbrev pub quiet : laws.Hart → laws.Hart
quiet h = record h { console = [] }

abbrev pub quiet_state : laws.Hart × Mem → laws.Hart × Mem
quiet_state s = (quiet s.0, s.1)

-- the state after at most so many instructions from an entry
abbrev pub state_after : {Spells StandsFor : ℕ → Inst → Type 0} → Reader Spells StandsFor → Mem →
    ℕ → List ℕ → ℕ → laws.Hart × Mem
state_after reader m entry input n = quiet_state (last_state reader n (laws.start entry input) m)

-- that state is this hart and memory with this input left; where no more can be read, none is left
pub record IsStateAt (m : Mem) (entry : ℕ) (input : List ℕ) (n : ℕ) (hart : Hart) (memory : Mem)
    (ended : Bool) (rest : List ℕ) : Type 0 where
  pub state : (r : Reader Spells StandsFor) →
      state_after r m entry input n ≡ (hart_of hart rest [], memory)
  pub dry : ended ≡ true → rest ≡ []

-- so many steps more leave a state as it is: none, or any number behind an end
abbrev pub IsStill : Option End → ℕ → Type 0
IsStill None more = more ≡ 0
IsStill (Some _) more = ⊤

abbrev pub is_limit : End → Bool
is_limit Limit = true
is_limit _ = false
