-- A load or a store that an instruction asks, and the effect that it is (ISA, 2.6).

use Rattle.std.specs.Prelude.{◌≡◌, ℕ, ◌*◌, ◌%◌, ◌^◌, Option, Some, None, ⊤}
use Rattle.rv_isa.specs.declared.instruction.Inst.{Inst}
use Rattle.rv_isa_laws.specs.Hart.{Hart, advanced}
use Rattle.rv_isa_laws.specs.Effect.{Effect, Loads, Stores}
use Rattle.rv_isa_laws.specs.Meaning.{effect, with_result}
use Rattle.rv_isa_laws.specs.Run.{Fetched, Got}
use Rattle.rv_memory.specs.Rights.{IsWidth}
use Rattle.rv_machine.specs.declared.action.Load as action
use Rattle.rv_machine.specs.declared.action.Action.{Action}
use Rattle.rv_machine.specs.declared.action.Action.TheVariants as actions
use Rattle.rv_machine.specs.declared.request.Request.{Request}
use Rattle.rv_machine.specs.declared.request.Request.TheVariants.{Load, Store}
use Rattle.rv_machine.specs.Action.{made}

-- the effect: a load's register gets what is made of the number read, and the hart goes behind the
-- instruction
abbrev pub requested : Request → Hart → Effect
requested (Load x length) h =
    Loads x.address x.bytes (λ n. with_result length h x.rd (made x.signed x.bytes n))
requested (Store x length) h = Stores x.address x.bytes x.value (advanced h length)

-- the bytes of the instruction, and those of memory
abbrev pub length_of : Request → ℕ
length_of (Load x length) = length
length_of (Store x length) = length

abbrev pub requested_bytes : Request → ℕ
requested_bytes (Load x length) = x.bytes
requested_bytes (Store x length) = x.bytes

-- neither a load nor a store
abbrev pub IsNoRequest : Effect → Type 0
IsNoRequest (Loads a n next) = ⊥
IsNoRequest (Stores a n v next) = ⊥
IsNoRequest _ = ⊤

-- this is the effect of what was fetched, if that is a load or a store
abbrev pub IsRequest : Option Request → Fetched → Hart → Type 0
IsRequest (Some request) fetched h =
    IsWidth (requested_bytes request)
    × ((i : Inst) × (fetched ≡ Got i (length_of request))
    × (effect i (length_of request) h ≡ requested request h))
IsRequest None fetched h =
    (i : Inst) (length : ℕ) → fetched ≡ Got i length → IsNoRequest (effect i length h)

-- the request that an action is
abbrev pub in_action : Action → ℕ → Option Request
in_action (actions.Load x) length = Some (Load x length)
in_action (actions.Store x) length = Some (Store x length)
in_action (actions.Set rd value) length = None
in_action (actions.Jump rd target) length = None
in_action (actions.Go target) length = None
in_action (actions.Reserve x) length = None
in_action (actions.Conditional x) length = None
in_action (actions.UpdateWord x) length = None
in_action (actions.UpdateDouble x) length = None
in_action actions.Call length = None
in_action actions.Break length = None

-- what a load's register gets where a number answers it: that of the number's low bytes
abbrev pub answered : action.Load → ℕ → ℕ
answered x number = made x.signed x.bytes (number % 2 ^ (8 * x.bytes))
