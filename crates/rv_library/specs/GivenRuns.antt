-- How what a run came to, and the state that it reached, are given to the caller.

use Rattle.std.specs.Prelude.{◌≡◌, ℕ, ◌+◌, ◌*◌, ◌%◌, ◌^◌, ◌<◌, ◌||◌, if◌then◌else◌, List, [], length, slice_index, Result, Ok, Err}
use Rattle.rv_isa_laws.specs.Memory.{Mem, Right, Read, Write, Execute, may, number_at}
use Rattle.rv_system.specs.Messages.{fault_text}
use Rattle.rv_memory.specs.HeldPages.{held_pages}
use Rattle.rv_machine.specs.Registers.{register_value}
use Rattle.rv_library.specs.declared.answers.Answer.{Answer}
use Rattle.rv_library.specs.declared.ends.Ended.{Ended}
use Rattle.rv_library.specs.declared.runs.Stop.{Stop}
use Rattle.rv_library.specs.declared.runs.Stop.TheVariants.{Refused, TooLong, Unknown}
use Rattle.rv_library.specs.declared.runs.Counted.{Counted}
use Rattle.rv_library.specs.declared.runs.Reached.{Reached}
use Rattle.rv_library.specs.declared.states.State.{State}
use Rattle.rv_library.specs.Answer.{answer_of}
use Rattle.rv_library.specs.Ends.{end_numbers}
use Rattle.rv_library.specs.Given.{IsBytesGiven, IsRefusalGiven}
use Rattle.rv_library.specs.Ran.{IsRan, IsReached}

-- the buffer has the line of the fault, or is as it was: RV_TOO_LONG, RV_UNKNOWN
abbrev pub IsStopGiven : Stop → (status : ℕ) → (console console' : List ℕ) → Answer → Type 0
IsStopGiven (Refused fault) status console console' answer =
    IsRefusalGiven (fault_text [] fault) fault status console console' answer
IsStopGiven TooLong status console console' answer =
    (status ≡ 5) × (console' ≡ console) × (answer ≡ answer_of 0 0)
IsStopGiven Unknown status console console' answer =
    (status ≡ 6) × (console' ≡ console) × (answer ≡ answer_of 0 0)

abbrev pub IsOutcomeGiven : Result Counted Stop → (status : ℕ) → (console console' : List ℕ) →
    Ended → (count : ℕ) → Answer → Type 0
IsOutcomeGiven (Ok c) status console console' e count answer =
    (e ≡ end_numbers c.outcome.«end») × (count ≡ c.count)
    × IsBytesGiven c.outcome.console.items status console console' answer
IsOutcomeGiven (Err stop) status console console' e count answer =
    IsStopGiven stop status console console' answer

-- what the run of a file comes to is given
abbrev pub GivesRun : (file input : List ℕ) → (limit status : ℕ) → (console console' : List ℕ) →
    Ended → (count : ℕ) → Answer → Type 0
GivesRun file input limit status console console' e count answer =
    (ran : Result Counted Stop) × IsRan file input limit ran
    × IsOutcomeGiven ran status console console' e count answer

-- a byte that may be read or executed is shown, another one as 0
abbrev pub shown_byte : Mem → ℕ → ℕ
shown_byte m a = if may m a 1 Read || may m a 1 Execute then number_at m a 1 else 0

abbrev pub right_bit : Mem → ℕ → Right → ℕ
right_bit m a right = if may m a 1 right then 1 else 0

-- its rights as segment flags: PF_R 4, PF_W 2, PF_X 1
abbrev pub rights_of : Mem → ℕ → ℕ
rights_of m a = 4 * right_bit m a Read + 2 * right_bit m a Write + right_bit m a Execute

-- the numbers of as many addresses, from this one on
abbrev pub AreOf : (ℕ → ℕ) → (address : ℕ) → List ℕ → Type 0
AreOf f address values =
    (k : ℕ) → k < length values → slice_index values k ≡ f ((address + k) % 2 ^ 64)

abbrev pub AreRegisters : (values registers : List ℕ) → Type 0
AreRegisters values registers =
    (r : ℕ) → r < 32 → slice_index values r ≡ register_value registers r

-- the buffers have the state of a machine
pub record IsShown (r : Reached) (address : ℕ) (memory memory' rights rights' : List ℕ)
    (state : State) (e : Ended) : Type 0 where
  pub registers : AreRegisters state.registers r.machine.hart.registers
  pub pc : state.pc ≡ r.machine.hart.pc
  pub count : state.count ≡ r.count
  pub ended : e ≡ end_numbers r.«end»
  pub memory_length : length memory' ≡ length memory
  pub shown : AreOf (shown_byte (held_pages r.machine.memory)) address memory'
  pub rights_length : length rights' ≡ length rights
  pub allowed : AreOf (rights_of (held_pages r.machine.memory)) address rights'

abbrev pub IsStateGiven : Result Reached Stop → (address status : ℕ) →
    (memory memory' rights rights' console console' : List ℕ) → State → Ended → Answer → Type 0
IsStateGiven (Ok r) address status memory memory' rights rights' console console' state e answer =
    IsShown r address memory memory' rights rights' state e
    × IsBytesGiven r.console.items status console console' answer
IsStateGiven (Err stop) address status memory memory' rights rights' console console' state e
    answer = IsStopGiven stop status console console' answer

-- the state of a file's run after at most `steps` instructions is given
abbrev pub GivesState : (file input : List ℕ) → (steps address status : ℕ) →
    (memory memory' rights rights' console console' : List ℕ) → State → Ended → Answer → Type 0
GivesState file input steps address status memory memory' rights rights' console console' state e
    answer =
    (reached : Result Reached Stop) × IsReached file input steps reached
    × IsStateGiven reached address status memory memory' rights rights' console console' state e
    answer
