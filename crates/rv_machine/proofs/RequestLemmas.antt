-- What an instruction asks of memory, by the action that it is.

use Rattle.std.proofs.Common.{◌≡◌, ℕ, None, sym, ap, ◌∙◌, subst}
use Rattle.rv_isa.specs.declared.instruction.Inst.{Inst}
use Rattle.rv_isa_laws.specs.Hart as laws
use Rattle.rv_isa_laws.specs.Effect.{Effect}
use Rattle.rv_isa_laws.specs.Meaning.{effect}
use Rattle.rv_isa_laws.specs.Run.{Fetched, Got}
use Rattle.rv_event_laws.specs.Event.{asks}
use Rattle.rv_machine.specs.declared.action.Action.{Action}
use Rattle.rv_machine.specs.declared.action.Action.TheVariants.{Set, Jump, Go, Load, Store, Reserve, Conditional, UpdateWord, UpdateDouble, Call, Break}
use Rattle.rv_machine.specs.Action.{effect_of, HasWidth}
use Rattle.rv_machine.specs.Request.{IsNoRequest, IsRequest, in_action}

-- what asks neither a load nor a store
pub none_asked : (f k : Fetched) (h : laws.Hart) → k ≡ f → IsNoRequest (asks k h) → IsRequest None f h
none_asked f k h is none = λ i length same. subst (λ (e : Effect). IsNoRequest e) (ap (λ (x : Fetched). asks x h) (is ∙ same)) none

pub other_asked : (i : Inst) (length : ℕ) (f : Fetched) (h : laws.Hart) (e : Effect) → Got i length ≡ f → e ≡ effect i length h → IsNoRequest e → IsRequest None f h
other_asked i length f h e is asked none = none_asked f (Got i length) h is (subst (λ (x : Effect). IsNoRequest x) asked none)

pub requests : (a : Action) (i : Inst) (length : ℕ) (f : Fetched) (h : laws.Hart) → Got i length ≡ f → HasWidth a → effect_of a length h ≡ effect i length h → IsRequest (in_action a length) f h
requests (Load x) i length f h is width asked = (width, (i, sym is, sym asked))
requests (Store x) i length f h is width asked = (width, (i, sym is, sym asked))
requests (Set rd value) i length f h is width asked = other_asked i length f h _ is asked tt
requests (Jump rd target) i length f h is width asked = other_asked i length f h _ is asked tt
requests (Go target) i length f h is width asked = other_asked i length f h _ is asked tt
requests (Reserve x) i length f h is width asked = other_asked i length f h _ is asked tt
requests (Conditional x) i length f h is width asked = other_asked i length f h _ is asked tt
requests (UpdateWord x) i length f h is width asked = other_asked i length f h _ is asked tt
requests (UpdateDouble x) i length f h is width asked = other_asked i length f h _ is asked tt
requests Call i length f h is width asked = other_asked i length f h _ is asked tt
requests Break i length f h is width asked = other_asked i length f h _ is asked tt
