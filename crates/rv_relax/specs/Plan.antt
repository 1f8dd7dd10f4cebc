-- What plans say is kept.

use Rattle.std.specs.Prelude.{◌≡◌, ⊤, ℕ, Bool, true, false, List, map}
use Rattle.std.specs.List.{list_all}
use Rattle.rv_size_laws.specs.Calls.{IsGreatestClosed}
use Rattle.rv_object_laws.specs.Object.{Section, Object}
use Rattle.rv_object_types.specs.View.{object_of}
use Rattle.rv_link_laws.specs.CallSites.{sites_of}
use Rattle.rv_link_laws.specs.Moves.{Move, has_room, moves}
use Rattle.rv_link_laws.specs.Shortened.{shortened, Relaxes}
use Rattle.rv_fault.specs.declared.link_fault.LinkFault.{LinkFault}
use Rattle.rv_fault.specs.declared.link_fault.LinkFault.TheVariants.{AlignmentShort, OutOfMemory}
use Rattle.rv_shorten.specs.Cuts.{no_cuts, object_cuts}
use Rattle.rv_shorten.specs.View.{moves_by_section, short_object_of, whole_object_of}
use Rattle.rv_relax.specs.declared.text_line.TextLine.{TextLine}
use Rattle.rv_relax.specs.declared.plan.Plan.{Plan}

-- the objects of a text
unfoldable pub objects_of_line : TextLine → List Object
objects_of_line p = map object_of p.objects.now

-- what a plan leaves of objects, calls cut and paddings whole
abbrev pub planned_objects : Plan → List Object
planned_objects p = map short_object_of p.objects.items

-- the objects as they were
abbrev pub whole_objects : Plan → List Object
whole_objects p = map whole_object_of p.objects.items

-- what it cuts of their sections
abbrev pub planned_cuts : Plan → List (List (List Move))
planned_cuts p = map moves_by_section p.objects.items

-- what relaxation leaves of objects, and what it cuts of their sections to that end
abbrev pub RelaxesBy : (relax : Bool) → (os left : List Object) → List (List (List Move)) → Type 0
RelaxesBy false os left cuts = (left ≡ os) × (cuts ≡ no_cuts os)
RelaxesBy true os left cuts =
    (kept : List ℕ) × IsGreatestClosed (sites_of os) kept × (left ≡ shortened kept os)
    × (cuts ≡ object_cuts kept os)

-- how many passes found the sizes of its calls
unfoldable pub rounds_of : Plan → ℕ
rounds_of p = p.rounds

-- ---- room

-- whether the paddings of a section have room: where it stands makes no difference, since it begins
-- at a multiple of each of its alignments
abbrev pub is_roomy : Section → Bool
is_roomy s = list_all has_room (moves 0 s)

abbrev pub are_roomy_objects : List Object → Bool
are_roomy_objects os = list_all (λ o. list_all is_roomy o.sections) os

-- ---- refusals

-- why a text has no plan: a padding of what relaxation leaves of it has no room
abbrev pub IsUnplanned : (relax : Bool) → List Object → LinkFault → Type 0
IsUnplanned relax os AlignmentShort =
    (left : List Object) × Relaxes relax os left × (are_roomy_objects left ≡ false)
IsUnplanned relax os OutOfMemory = ⊤
IsUnplanned relax os _ = ⊥
