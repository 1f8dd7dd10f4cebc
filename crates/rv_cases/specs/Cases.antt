-- Whether what came of a run is what had to come (this program's own).

use Rattle.std.specs.Prelude.{ℕ, ◌==◌, min, Bool, false, ◌&&◌, bytes_eq, Option, Some, None, unwrap_or}
use Rattle.rv_machine.specs.declared.end.End.{End}
use Rattle.rv_machine.specs.declared.end.End.TheVariants as ends
use Rattle.rv_machine.specs.declared.outcome.Outcome.{Outcome}
use Rattle.rv_guests.specs.Messages.{end_text}
use Rattle.rv_cases.specs.declared.case.WantedEnd.{WantedEnd}
use Rattle.rv_cases.specs.declared.case.WantedEnd.TheVariants as wanted_ends
use Rattle.rv_cases.specs.declared.case.Wanted.{Wanted}
use Rattle.rv_cases.specs.declared.case.Wanted.TheVariants as wanted

-- the limit that the case says, else the one that is given; and no more than the run may take
abbrev pub most_of : Option ℕ → Option ℕ → ℕ → ℕ
most_of limit None given = unwrap_or limit given
most_of limit (Some instructions) given = min (unwrap_or limit given) instructions

-- an exit by its status alone, and any other end by its line alone
abbrev pub ends_so : WantedEnd → End → Bool
ends_so (wanted_ends.Exited status) (ends.Exited code) = code == status
ends_so (wanted_ends.Exited status) _ = false
ends_so (wanted_ends.Other line) (ends.Exited code) = false
ends_so (wanted_ends.Other line) e = bytes_eq line.items (end_text e)

-- the end, and every byte that was written where something is said of them; a run is no fault
abbrev pub is_met : Wanted → Outcome → Bool
is_met (wanted.Refused line) outcome = false
is_met (wanted.Run wanted_end None) outcome = ends_so wanted_end outcome.«end»
is_met (wanted.Run wanted_end (Some text)) outcome =
    ends_so wanted_end outcome.«end» && bytes_eq text.items outcome.console.items
