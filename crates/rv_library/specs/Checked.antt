-- What a check of sources finds, and how it is given to the caller.

use Rattle.std.specs.Prelude.{◌≡◌, ℕ, List, [], length, Option, Some, None, Result, Ok, Err}
use Rattle.rv_fault.specs.declared.fault.Fault.{Fault}
use Rattle.rv_link_laws.specs.Ground.{usual}
use Rattle.rv_system.specs.Messages.{fault_text}
use Rattle.rv_check.specs.Check.{BeginsWithFaultOf}
use Rattle.rv_check.specs.declared.report.Finding.{Finding}
use Rattle.rv_library.specs.declared.answers.Answer.{Answer}
use Rattle.rv_library.specs.declared.checking.Checked.{Checked}
use Rattle.rv_library.specs.Answer.{answer_of, refusal_of}
use Rattle.rv_library.specs.Given.{IsRefusalGiven, have_room, put_in, room_status}
use Rattle.rv_library.specs.Options.{relaxes, collects}
use Rattle.rv_library.specs.Texts.{texts_by_lengths}

-- the first finding is of the fault for which a build of the texts is refused; without one they have
-- none (the names of the texts may be unfit, too, and memory may run out)
abbrev pub IsCheck : (bytes lengths : List ℕ) → (start flags : ℕ) →
    Result (Option Checked) Fault → Type 0
IsCheck bytes lengths start flags (Ok None) = Unit {0}
IsCheck bytes lengths start flags (Ok (Some c)) =
    (texts : List (List ℕ)) × (texts_by_lengths lengths bytes ≡ Some texts)
    × BeginsWithFaultOf texts (usual start) (relaxes flags) (collects flags) c.report.first
IsCheck bytes lengths start flags (Err fault) = Unit {0}

-- an answer with the numbers of the first finding
abbrev pub answer_with : Option Finding → ℕ → Answer
answer_with None n = answer_of n 0
answer_with (Some finding) n = refusal_of finding.fault n

abbrev pub IsFoundGiven : Option Checked → (status : ℕ) → (text text' : List ℕ) → Answer → Type 0
IsFoundGiven (Some c) status text text' answer =
    (status ≡ room_status (have_room c.text.items text)) × (text' ≡ put_in c.text.items text)
    × (answer ≡ answer_with c.report.first (length c.text.items))
IsFoundGiven None status text text' answer =
    (status ≡ 4) × (text' ≡ text) × (answer ≡ answer_of 0 0)

abbrev pub IsCheckGiven : Result (Option Checked) Fault → (status : ℕ) →
    (text text' : List ℕ) → Answer → Type 0
IsCheckGiven (Ok found) status text text' answer = IsFoundGiven found status text text' answer
IsCheckGiven (Err fault) status text text' answer =
    IsRefusalGiven (fault_text [] fault) fault status text text' answer

-- what is found is given
abbrev pub GivesCheck : (bytes lengths : List ℕ) → (start flags status : ℕ) →
    (text text' : List ℕ) → Answer → Type 0
GivesCheck bytes lengths start flags status text text' answer =
    (found : Result (Option Checked) Fault) × IsCheck bytes lengths start flags found
    × IsCheckGiven found status text text' answer
