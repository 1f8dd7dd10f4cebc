-- The source run: each statement is one step, at the addresses of the map.

use Rattle.std.specs.Prelude.{ℕ, zero, suc, ◌-◌, ◌&&◌, ◌==◌, nat_le, nat_lt, if◌then◌else◌, List, Option, Some, None}
use Rattle.std.specs.List.{find, list_any}
use Rattle.rv_isa_laws.specs.Memory.{Mem}
use Rattle.rv_isa_laws.specs.Hart.{Hart, Outcome, Illegal, FetchOutside, Astray, Limit, start, stop}
use Rattle.rv_isa_laws.specs.Effect.{Next, Over, apply, follow}
use Rattle.rv_statement_laws.specs.Statement.{Statement}
use Rattle.rv_map_laws.specs.Map.{Map}
use Rattle.rv_source_laws.specs.Program.{Mapped, Program, program}
use Rattle.rv_source_laws.specs.Meaning.{meaning, cost}
use Rattle.rv_source_laws.specs.Start.{is_in, first_memory}

-- what stands at a pc: a statement that starts there, the inside of one, a gap of the text, or no
-- text
pub data Place : Type 0 where
  Starts : (site : Mapped) → Place
  Inside : Place
  Gap : Place
  Outside : Place

abbrev pub starts_or_inside : Option Mapped → Place
starts_or_inside (Some site) = Starts site
starts_or_inside None = Inside

-- the site with more than 0 bytes that starts at pc
abbrev pub found : List Mapped → ℕ → Option Mapped
found mapped pc = find (λ s. nat_lt 0 s.row.bytes && (s.row.address == pc)) mapped

abbrev pub place : Program → ℕ → Place
place p pc =
    if is_in p.map.text pc
    then (if list_any (λ gap. is_in gap pc) p.map.gaps then Gap
    else starts_or_inside (found p.mapped pc))
    else Outside

-- the step at a place; the next pc is the row's end where the statement doesn't jump
abbrev pub step_at : Program → Place → Hart → Mem → Next
step_at p (Starts site) h m = apply (meaning p site h) m
step_at p Inside h m = Over Astray
step_at p Gap h m = Over (Illegal h.pc)
step_at p Outside h m = Over (FetchOutside h.pc)

-- how many instructions the step counts
abbrev pub cost_at : Program → Place → Hart → ℕ
cost_at p (Starts site) h = cost p site h
cost_at p Inside h = 1
cost_at p Gap h = 1
cost_at p Outside h = 1

-- at most `most` steps, while the next one's cost is at most what is left
abbrev pub steps : ℕ → Program → ℕ → Hart → Mem → Outcome
steps zero p left h m = stop h Limit
steps (suc most) p left h m =
    let here = place p h.pc in
    if nat_le (cost_at p here h) left
    then follow (step_at p here h m) h (steps most p (left - cost_at p here h))
    else stop h Limit

-- the run of the sources at a map, on an input, within n instructions; each step counts one or more
abbrev pub source_run : List (List Statement) → Map → List ℕ → ℕ → Outcome
source_run sources map input n =
    let p = program sources map in
    steps n p n (start map.entry input) (first_memory p)
