-- Sections one after another, as a pass over them places those that go to a region.

use Rattle.std.specs.Prelude.{◌≡◌, ℕ, ◌+◌, ◌<◌, ◌^◌, Bool, nat_lt, max, map, List, [], ◌∷◌, ◌++◌, if◌then◌else◌}
use Rattle.std.specs.Global.{Vec}
use Rattle.std.specs.List.{AllZip}
use Rattle.rv_size_laws.specs.Alignment.{aligned}
use Rattle.rv_map_laws.specs.declared.map.Region.{Region}
use Rattle.rv_object_laws.specs.Object.{Section, Object, size_of}
use Rattle.rv_link_laws.specs.Moves.{moves, new_offset}
use Rattle.rv_link_laws.specs.Inputs.{goes_to_text, goes_to_rodata, goes_to_data, goes_to_bss, begins_at}
use Rattle.rv_relax.specs.Kept.{moves_of}
use Rattle.rv_placement.specs.declared.destination.Destination.{Destination}
use Rattle.rv_placement.specs.declared.destination.Destination.TheVariants.{Rodata, Data, Bss}
use Rattle.rv_placement.specs.declared.placement.PlacedSection.{PlacedSection}

-- the sections that go to a region
abbrev pub goes : Destination → Section → Bool
goes Rodata s = goes_to_rodata s
goes Data s = goes_to_data s
goes Bss s = goes_to_bss s

-- where a section starts that comes after an end
abbrev pub start_behind : ℕ → Section → ℕ
start_behind stop s = aligned (begins_at s) stop

-- the end of a section that starts at an address, and of one that comes after an end
abbrev pub end_from : ℕ → Section → ℕ
end_from start s = start + new_offset (moves start s) (size_of s.contents)

abbrev pub end_behind : ℕ → Section → ℕ
end_behind stop s = end_from (start_behind stop s) s

-- the end after a section; one that goes elsewhere changes nothing
abbrev pub next : (Section → Bool) → ℕ → Section → ℕ
next to stop s = if to s then end_behind stop s else stop

abbrev pub ended : (Section → Bool) → ℕ → List Section → ℕ
ended to stop [] = stop
ended to stop (s ∷ ss) = ended to (next to stop s) ss

abbrev pub ended_files : (Section → Bool) → ℕ → List Object → ℕ
ended_files to stop [] = stop
ended_files to stop (o ∷ os) = ended_files to (ended to stop o.sections) os

-- where it starts; one that goes elsewhere stays
abbrev pub start_from : (Section → Bool) → ℕ → ℕ → Section → ℕ
start_from to stop old s = if to s then start_behind stop s else old

abbrev pub moved_to : (Section → Bool) → ℕ → PlacedSection → Section → PlacedSection
moved_to to stop q s = record q { start = start_from to stop q.start s }

abbrev pub started : (Section → Bool) → ℕ → List PlacedSection → List Section → List PlacedSection
started to stop (q ∷ qs) (s ∷ ss) = moved_to to stop q s ∷ started to (next to stop s) qs ss
started to stop qs ss = qs

abbrev pub started_files : (Section → Bool) → ℕ → List (List PlacedSection) → List Object
    → List (List PlacedSection)
started_files to stop (f ∷ fs) (o ∷ os) =
    started to stop f o.sections ∷ started_files to (ended to stop o.sections) fs os
started_files to stop fs os = fs

-- the places of each file
abbrev pub lists_of : List (Vec PlacedSection) → List (List PlacedSection)
lists_of fs = map (λ f. f.items) fs

-- the starts of the text's sections, and 0 for all others
abbrev pub text_starts : ℕ → List Section → List ℕ
text_starts stop [] = []
text_starts stop (s ∷ ss) =
    start_from goes_to_text stop 0 s ∷ text_starts (next goes_to_text stop s) ss

abbrev pub text_files : ℕ → List Object → List (List ℕ)
text_files stop [] = []
text_files stop (o ∷ os) =
    text_starts stop o.sections ∷ text_files (ended goes_to_text stop o.sections) os

-- the gap between an end and a start, if there is one
abbrev pub gap_between : ℕ → ℕ → List Region
gap_between stop start =
    if nat_lt stop start then record { start = stop; end = start } ∷ [] else []

-- the gap before a section of text
abbrev pub gap_behind : ℕ → Section → List Region
gap_behind stop s = if goes_to_text s then gap_between stop (start_behind stop s) else []

abbrev pub gapped : ℕ → List Section → List Region
gapped stop [] = []
gapped stop (s ∷ ss) = gap_behind stop s ++ gapped (next goes_to_text stop s) ss

abbrev pub gapped_files : ℕ → List Object → List Region
gapped_files stop [] = []
gapped_files stop (o ∷ os) =
    gapped stop o.sections ++ gapped_files (ended goes_to_text stop o.sections) os

-- the greatest alignment of those that go to a region
abbrev pub weight : (Section → Bool) → Section → ℕ
weight to s = if to s then begins_at s else 1

abbrev pub greatest_in : (Section → Bool) → List Section → ℕ
greatest_in to [] = 1
greatest_in to (s ∷ ss) = max (weight to s) (greatest_in to ss)

abbrev pub greatest_of : (Section → Bool) → List Object → ℕ
greatest_of to [] = 1
greatest_of to (o ∷ os) = max (greatest_in to o.sections) (greatest_of to os)

-- the plan is that of the section where it starts; each of its bytes has an offset, and each that
-- is kept an address
abbrev pub IsKept : Section → PlacedSection → Type 0
IsKept s q =
    (moves_of q.plan.now ≡ moves q.start s) × (size_of s.contents < 2 ^ 64)
    × (end_from q.start s < 2 ^ 64)

abbrev pub AreKept : Object → List PlacedSection → Type 0
AreKept o qs = AllZip IsKept o.sections qs

-- the place of a section that starts at an address is added
abbrev pub IsPut : Section → ℕ → List PlacedSection → List PlacedSection → Type 0
IsPut s start old new =
    (q : PlacedSection) × (new ≡ old ++ (q ∷ [])) × (q.start ≡ start) × IsKept s q

-- the regions behind a text that ends here: rodata and data at the next pages, bss after data
pub record AreBehind (os : List Object) (stop : ℕ) (rodata variables bss : Region) : Type 0 where
  pub rodata_start : rodata.start ≡ aligned 4096 stop
  pub rodata_end : rodata.end ≡ ended_files (goes Rodata) rodata.start os
  pub data_start : variables.start ≡ aligned 4096 rodata.end
  pub data_end : variables.end ≡ ended_files (goes Data) variables.start os
  pub bss_start : bss.start ≡ aligned (greatest_of (goes Bss) os) variables.end
  pub bss_end : bss.end ≡ ended_files (goes Bss) bss.start os

-- the places after the passes over those regions
abbrev pub behind_files : List (List PlacedSection) → Region → Region → Region → List Object
    → List (List PlacedSection)
behind_files fs rodata variables bss os =
    started_files (goes Bss) bss.start
    (started_files (goes Data) variables.start
    (started_files (goes Rodata) rodata.start fs os) os) os

-- wherever they stand, they pass a ceiling
abbrev pub AreFar : List Object → ℕ → ℕ → Type 0
AreFar os ceiling stop =
    (rodata variables bss : Region) → AreBehind os stop rodata variables bss → ceiling < bss.end
