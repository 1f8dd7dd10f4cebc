-- How bytes, or why there are none, are given to the caller.

use Rattle.std.specs.Prelude.{◌≡◌, ◌⊎◌, ℕ, min, nat_le, Bool, ◌&&◌, if◌then◌else◌, List, [], ◌++◌, length, take, drop, Option, Some, None, Result, Ok, Err}
use Rattle.rv_system.specs.Messages.{fault_text}
use Rattle.rv_fault.specs.declared.fault.Fault.{Fault}
use Rattle.rv_library.specs.declared.answers.Answer.{Answer}
use Rattle.rv_library.specs.declared.answers.Made.{Made}
use Rattle.rv_library.specs.Answer.{answer_of, refusal_of}

-- all of the bytes have room
abbrev pub have_room : (bytes room : List ℕ) → Bool
have_room bytes room = nat_le (length bytes) (length room)

-- as many of the bytes as there is room for, and behind them what was there
abbrev pub put_in : (bytes room : List ℕ) → List ℕ
put_in bytes room =
    let n = min (length bytes) (length room) in take n bytes ++ drop n room

-- RV_OK where all bytes had room, else RV_SMALL
abbrev pub room_status : Bool → ℕ
room_status fits = if fits then 0 else 1

-- the only buffer has these bytes
abbrev pub IsBytesGiven : (bytes : List ℕ) → (status : ℕ) → (first first' : List ℕ) → Answer →
    Type 0
IsBytesGiven bytes status first first' answer =
    (status ≡ room_status (have_room bytes first)) × (first' ≡ put_in bytes first)
    × (answer ≡ answer_of (length bytes) 0)

-- both buffers have what was made, or the arguments did not belong together (RV_UNFIT) and both are
-- as they were
abbrev pub IsMadeGiven : Option Made → (status : ℕ) → (first first' second second' : List ℕ) →
    Answer → Type 0
IsMadeGiven (Some made) status first first' second second' answer =
    (status ≡ room_status (have_room made.first.items first && have_room made.second.items second))
    × (first' ≡ put_in made.first.items first)
    × (second' ≡ put_in made.second.items second)
    × (answer ≡ answer_of (length made.first.items) (length made.second.items))
IsMadeGiven None status first first' second second' answer =
    (status ≡ 4) × (first' ≡ first) × (second' ≡ second) × (answer ≡ answer_of 0 0)

-- the buffer has the line of the fault (RV_REFUSED), or memory ran out (RV_MEMORY), also for the
-- line itself
abbrev pub IsRefusalGiven : (line : Option (List ℕ)) → Fault → (status : ℕ) →
    (first first' : List ℕ) → Answer → Type 0
IsRefusalGiven None fault status first first' answer =
    (status ≡ 3) × (first' ≡ first) × (answer ≡ answer_of 0 0)
IsRefusalGiven (Some line) fault status first first' answer =
    ((status ≡ 3) × (first' ≡ first) × (answer ≡ answer_of 0 0))
    ⊎ ((status ≡ 2) × (first' ≡ put_in line first) × (answer ≡ refusal_of fault (length line)))

-- what was made is given, or why nothing was
abbrev pub IsGiven : Result (Option Made) Fault → (status : ℕ) →
    (first first' second second' : List ℕ) → Answer → Type 0
IsGiven (Ok found) status first first' second second' answer =
    IsMadeGiven found status first first' second second' answer
IsGiven (Err fault) status first first' second second' answer =
    IsRefusalGiven (fault_text [] fault) fault status first first' answer × (second' ≡ second)

-- the same where there is no second buffer
abbrev pub IsGivenAlone : Result (Option Made) Fault → (status : ℕ) → (first first' : List ℕ) →
    Answer → Type 0
IsGivenAlone made status first first' answer =
    (rest : List ℕ) × IsGiven made status first first' [] rest answer
