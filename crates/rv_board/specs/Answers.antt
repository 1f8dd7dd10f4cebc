-- What an answer comes to beside a step with devices.

use Rattle.std.specs.Prelude.{◌≡◌, ℕ, List, [], ◌++◌, Option, Some, None, Result, Ok, Err, ⊤}
use Rattle.rv_isa_laws.specs.Word.{Spells}
use Rattle.rv_parcel.specs.Parcel.{StandsFor}
use Rattle.rv_isa_laws.specs.Memory.{Mem}
use Rattle.rv_isa_laws.specs.Hart as laws
use Rattle.rv_isa_laws.specs.Effect.{Next, On, Over}
use Rattle.rv_isa_laws.specs.Meaning.{with_result}
use Rattle.rv_isa_laws.specs.Reader.{Reader}
use Rattle.rv_isa_laws.specs.Run.{step}
use Rattle.rv_machine.specs.declared.action.Load.{Load}
use Rattle.rv_machine.specs.declared.action.Store.{Store}
use Rattle.rv_machine.specs.declared.end.End.{End}
use Rattle.rv_machine.specs.Action.{made}
use Rattle.rv_machine.specs.End.{law_end}
use Rattle.rv_machine.specs.Streams.{MayFollow}
use Rattle.rv_machine.specs.declared.running.RunFault.{RunFault}
use Rattle.rv_machine.specs.declared.running.RunFault.TheVariants.{InputFault, OutputFault, OutOfMemory}
use Rattle.rv_board_laws.specs.Device.{Plain, loaded, stored, step_on}
use Rattle.rv_board_laws.specs.Virt.{virt}
use Rattle.rv_board.specs.declared.answering.Answer.{Answer}
use Rattle.rv_board.specs.declared.answering.Answer.TheVariants.{Went, Ended, Refused}

-- what a load makes of a hart by a number
abbrev pub next_by : Load → ℕ → laws.Hart → ℕ → laws.Hart
next_by x length h n = with_result length h x.rd (made x.signed x.bytes n)

-- a device lets the hart go on, or ends the run
abbrev pub ended_by : Option End → Mem → laws.Hart → Next
ended_by None m next = On next m
ended_by (Some e) m next = Over (law_end e)

-- what a load comes to that memory refused, and a store
abbrev pub LoadsTo : Result Answer RunFault → List ℕ → Type 0 → Load → ℕ →
    (List ℕ → List ℕ → laws.Hart) → Mem → (List ℕ → List ℕ → laws.Hart) → Mem → Type 0
LoadsTo (Ok Went) read none_empty x length h m h' m' =
    (rest console : List ℕ) → MayFollow none_empty rest →
    loaded (virt x.address) m x.address x.bytes (next_by x length (h (read ++ rest) console))
    ≡ On (h' rest console) m'
LoadsTo (Ok Refused) read none_empty x length h m h' m' = (read ≡ []) × (virt x.address ≡ Plain)
LoadsTo (Err InputFault) read none_empty x length h m h' m' = ⊤
LoadsTo _ read none_empty x length h m h' m' = ⊥

abbrev pub StoresTo : Result Answer RunFault → List ℕ → Store → ℕ →
    (List ℕ → List ℕ → laws.Hart) → Mem → (List ℕ → List ℕ → laws.Hart) → Mem → Type 0
StoresTo (Ok Went) written x length h m h' m' =
    (input console : List ℕ) →
    stored (virt x.address) m x.address x.bytes x.value (laws.advanced (h input console) length)
    ≡ On (h' input (console ++ written)) m'
StoresTo (Ok (Ended e)) written x length h m h' m' =
    (written ≡ []) × ((input console : List ℕ) →
    stored (virt x.address) m x.address x.bytes x.value (laws.advanced (h input console) length)
    ≡ Over (law_end e))
StoresTo (Ok Refused) written x length h m h' m' = (written ≡ []) × (virt x.address ≡ Plain)
StoresTo (Err OutputFault) written x length h m h' m' = written ≡ []
StoresTo _ written x length h m h' m' = ⊥

-- where memory refuses the step at this hart, what the step with devices comes to: it reads and
-- writes these bytes and goes on, it ends the run, or no device answers
abbrev pub AnswersTo : Result Answer RunFault → List ℕ → List ℕ → Type 0 → Reader Spells StandsFor →
    (List ℕ → List ℕ → laws.Hart) → Mem → (List ℕ → List ℕ → laws.Hart) → Mem → Type 0
AnswersTo (Ok Went) read written none_empty r h m h' m' =
    (rest console : List ℕ) (e : laws.End) → MayFollow none_empty rest →
    step r (h (read ++ rest) console) m ≡ Over e →
    step_on virt r (h (read ++ rest) console) m ≡ On (h' rest (console ++ written)) m'
AnswersTo (Ok (Ended end)) read written none_empty r h m h' m' =
    (read ≡ []) × ((written ≡ []) × ((rest console : List ℕ) (e : laws.End) →
    step r (h rest console) m ≡ Over e → step_on virt r (h rest console) m ≡ Over (law_end end)))
AnswersTo (Ok Refused) read written none_empty r h m h' m' =
    (read ≡ []) × ((written ≡ []) × ((rest console : List ℕ) (e : laws.End) →
    step r (h rest console) m ≡ Over e → step_on virt r (h rest console) m ≡ Over e))
AnswersTo (Err InputFault) read written none_empty r h m h' m' = written ≡ []
AnswersTo (Err OutputFault) read written none_empty r h m h' m' = (read ≡ []) × (written ≡ [])
AnswersTo (Err OutOfMemory) read written none_empty r h m h' m' = ⊥
