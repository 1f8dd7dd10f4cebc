-- Passes over sections put them where the layout does.

use Rattle.std.proofs.Common.{suc, ◌≡◌, ◌<◌, ◌≤◌, ◌+◌, ◌-◌, ◌^◌, ℕ, Bool, true, false, Option, Some, None, List, [], ◌∷◌, ◌++◌, map, max, nat_lt, refl, sym, ap, subst, ◌∙◌, append_assoc, arith}
use Rattle.std.specs.Prelude.{if◌then◌else◌, ⊤, filter}
use Rattle.std.specs.List.{AllZip, slice_get}
use Rattle.rv_map_laws.specs.declared.map.Region.{Region}
use Rattle.rv_object_laws.specs.Object.{Section, Object, size_of}
use Rattle.rv_link_laws.specs.Moves.{has_padding, plan, by_place, moves, new_offset}
use Rattle.rv_link_laws.specs.Inputs.{Starts, InputSection, goes_to_text, begins_at, inputs_from, inputs_of, start_of, size, Stand, sections_end, gaps_of, greatest}
use Rattle.rv_placement.specs.declared.placement.PlacedSection.{PlacedSection}
use Rattle.rv_placement.specs.Placement.{start_in}
use Rattle.rv_placement.specs.Walk.{start_behind, end_from, end_behind, next, ended, ended_files, start_from, started, started_files, text_starts, text_files, gap_between, gapped, gapped_files, greatest_in, greatest_of, IsKept, AreKept}
use Rattle.rv_placement.proofs.WalksLemmas.{grows, grows_files}

-- ---- those of a file

-- the sections that go to a region start one behind another
abbrev pub Chosen : (Section → Bool) → ℕ → List PlacedSection → List Section → Type 0
Chosen to stop [] [] = ⊤
Chosen to stop [] (s ∷ ss) = ⊥
Chosen to stop (q ∷ qs) [] = ⊥
Chosen to stop (q ∷ qs) (s ∷ ss) = (to s ≡ true → q.start ≡ start_behind stop s) × Chosen to (next to stop s) qs ss

chosen_text : (stop : ℕ) (qs : List PlacedSection) (ss : List Section) → map (λ q. q.start) qs ≡ text_starts stop ss → Chosen goes_to_text stop qs ss
chosen_text stop [] [] e = tt
chosen_text stop [] (s ∷ ss) e = absurd (cc)
chosen_text stop (q ∷ qs) [] e = absurd (cc)
chosen_text stop (q ∷ qs) (s ∷ ss) e =
    let head : q.start ≡ start_from goes_to_text stop 0 s = cc in
    let tail : map (λ q. q.start) qs ≡ text_starts (next goes_to_text stop s) ss = cc in
    (λ goes. head ∙ ap (λ b. if b then start_behind stop s else 0) goes, chosen_text (next goes_to_text stop s) qs ss tail)

chosen_started : (to : Section → Bool) (stop : ℕ) (qs : List PlacedSection) (ss : List Section) → AllZip IsKept ss qs → Chosen to stop (started to stop qs ss) ss
chosen_started to stop [] [] k = tt
chosen_started to stop [] (s ∷ ss) k = k
chosen_started to stop (q ∷ qs) [] k = k
chosen_started to stop (q ∷ qs) (s ∷ ss) k = (λ goes. ap (λ b. if b then start_behind stop s else q.start) goes, chosen_started to (next to stop s) qs ss k.1)

chosen_still : (to other : Section → Bool) (stop last : ℕ) (qs : List PlacedSection) (ss : List Section) → ((s : Section) → to s ≡ true → other s ≡ false) → Chosen to stop qs ss → Chosen to stop (started other last qs ss) ss
chosen_still to other stop last [] [] apart h = tt
chosen_still to other stop last [] (s ∷ ss) apart h = h
chosen_still to other stop last (q ∷ qs) [] apart h = h
chosen_still to other stop last (q ∷ qs) (s ∷ ss) apart h = (
  λ goes. ap (λ b. if b then start_behind last s else q.start) (apart s goes) ∙ h.0 goes,
  chosen_still to other (next to stop s) (next other last s) qs ss apart h.1,
)

-- a section that isn't in the text loses nothing
pub moves_other : (s : Section) (base : ℕ) → goes_to_text s ≡ false → moves base s ≡ []
moves_other s base e = ap (λ b. plan base 0 (if b then by_place (filter has_padding s.relocations) else [])) e

whole_other : (s : Section) (base old : ℕ) → goes_to_text s ≡ false → new_offset (moves base s) old ≡ old
whole_other s base old e = ap (λ ms. new_offset ms old) (moves_other s base e) ∙ (let same : old - 0 ≡ old = omega arith in same)

kept_started : (to : Section → Bool) (stop limit : ℕ) (qs : List PlacedSection) (ss : List Section) → ((s : Section) → to s ≡ true → goes_to_text s ≡ false) → limit < 2 ^ 64 → ended to stop ss ≤ limit
    → AllZip IsKept ss qs → AllZip IsKept ss (started to stop qs ss)
kept_started to stop limit [] [] apart few low k = tt
kept_started to stop limit [] (s ∷ ss) apart few low k = k
kept_started to stop limit (q ∷ qs) [] apart few low k = k
kept_started to stop limit (q ∷ qs) (s ∷ ss) apart few low k =
    (go (to s) refl, kept_started to (next to stop s) limit qs ss apart few low k.1)
  where
    go : (b : Bool) → to s ≡ b → IsKept s (record q { start = if b then start_behind stop s else q.start })
    go true e =
        let none = apart s e in
        let more : next to stop s ≤ ended to (next to stop s) ss = grows to (next to stop s) ss in
        let here : next to stop s ≡ start_behind stop s + size_of s.contents = ap (λ b. if b then end_behind stop s else stop) e ∙ ap (λ n. start_behind stop s + n) (whole_other s (start_behind stop s) (size_of s.contents) none) in
        let fits : end_from (start_behind stop s) s < 2 ^ 64 = let w = whole_other s (start_behind stop s) (size_of s.contents) none in omega arith in
        (k.0.0 ∙ moves_other s q.start none ∙ sym (moves_other s (start_behind stop s) none), k.0.1, fits)
    go false e = k.0

-- ---- those of all files

abbrev pub ChosenFiles : (Section → Bool) → ℕ → List (List PlacedSection) → List Object → Type 0
ChosenFiles to stop [] [] = ⊤
ChosenFiles to stop [] (o ∷ os) = ⊥
ChosenFiles to stop (f ∷ fs) [] = ⊥
ChosenFiles to stop (f ∷ fs) (o ∷ os) = Chosen to stop f o.sections × ChosenFiles to (ended to stop o.sections) fs os

pub files_text : (stop : ℕ) (fs : List (List PlacedSection)) (os : List Object) → map (λ f. map (λ q. q.start) f) fs ≡ text_files stop os → ChosenFiles goes_to_text stop fs os
files_text stop [] [] e = tt
files_text stop [] (o ∷ os) e = absurd (cc)
files_text stop (f ∷ fs) [] e = absurd (cc)
files_text stop (f ∷ fs) (o ∷ os) e =
    let head : map (λ q. q.start) f ≡ text_starts stop o.sections = cc in
    let tail : map (λ f. map (λ q. q.start) f) fs ≡ text_files (ended goes_to_text stop o.sections) os = cc in
    (chosen_text stop f o.sections head, files_text (ended goes_to_text stop o.sections) fs os tail)

pub files_started : (to : Section → Bool) (stop : ℕ) (fs : List (List PlacedSection)) (os : List Object) → AllZip AreKept os fs → ChosenFiles to stop (started_files to stop fs os) os
files_started to stop [] [] k = tt
files_started to stop [] (o ∷ os) k = k
files_started to stop (f ∷ fs) [] k = k
files_started to stop (f ∷ fs) (o ∷ os) k = (chosen_started to stop f o.sections k.0, files_started to (ended to stop o.sections) fs os k.1)

pub files_still : (to other : Section → Bool) (stop last : ℕ) (fs : List (List PlacedSection)) (os : List Object) → ((s : Section) → to s ≡ true → other s ≡ false) → ChosenFiles to stop fs os
    → ChosenFiles to stop (started_files other last fs os) os
files_still to other stop last [] [] apart h = tt
files_still to other stop last [] (o ∷ os) apart h = h
files_still to other stop last (f ∷ fs) [] apart h = h
files_still to other stop last (f ∷ fs) (o ∷ os) apart h = (
  chosen_still to other stop last f o.sections apart h.0,
  files_still to other (ended to stop o.sections) (ended other last o.sections) fs os apart h.1,
)

pub files_kept : (to : Section → Bool) (stop limit : ℕ) (fs : List (List PlacedSection)) (os : List Object) → ((s : Section) → to s ≡ true → goes_to_text s ≡ false) → limit < 2 ^ 64
    → ended_files to stop os ≤ limit → AllZip AreKept os fs → AllZip AreKept os (started_files to stop fs os)
files_kept to stop limit [] [] apart few low k = tt
files_kept to stop limit [] (o ∷ os) apart few low k = k
files_kept to stop limit (f ∷ fs) [] apart few low k = k
files_kept to stop limit (f ∷ fs) (o ∷ os) apart few low k =
    let more : ended to stop o.sections ≤ ended_files to (ended to stop o.sections) os = grows_files to (ended to stop o.sections) os in
    let here : ended to stop o.sections ≤ limit = omega arith in
    (kept_started to stop limit f o.sections apart few here k.0, files_kept to (ended to stop o.sections) limit fs os apart few low k.1)

-- ---- the layout

abbrev pub start_at : Option (List PlacedSection) → ℕ → ℕ
start_at None index = 0
start_at (Some f) index = start_in (slice_get f index)

module _ (starts : Starts) (to : Section → Bool) where
  stand_file : (file : ℕ) (o : Object) (index stop : ℕ) (qs : List PlacedSection) (ss : List Section) (rest : List InputSection) → ((k : ℕ) → starts file (index + k) ≡ start_in (slice_get qs k))
      → Chosen to stop qs ss → Stand starts (ended to stop ss) rest → Stand starts stop (inputs_from to file o index ss ++ rest)
  stand_file file o index stop [] [] rest at h more = more
  stand_file file o index stop [] (s ∷ ss) rest at h more = absurd h
  stand_file file o index stop (q ∷ qs) [] rest at h more = absurd h
  stand_file file o index stop (q ∷ qs) (s ∷ ss) rest at h more =
      go (to s) h.0 (stand_file file o (suc index) (next to stop s) qs ss rest (λ k. ap (starts file) (let e : suc index + k ≡ index + suc k = omega arith in e) ∙ at (suc k)) h.1 more)
    where
      here : starts file index ≡ q.start
      here = ap (starts file) (let e : index ≡ index + 0 = omega arith in e) ∙ at 0

      go : (b : Bool) → (b ≡ true → q.start ≡ start_behind stop s) → Stand starts (if b then end_behind stop s else stop) (inputs_from to file o (suc index) ss ++ rest)
          → Stand starts stop ((if b then record { file = file; object = o; index = index; section = s } ∷ inputs_from to file o (suc index) ss else inputs_from to file o (suc index) ss) ++ rest)
      go true e m =
          let start : starts file index ≡ start_behind stop s = here ∙ e refl in
          (start, subst (λ n. Stand starts n (inputs_from to file o (suc index) ss ++ rest)) (ap (λ n. n + new_offset (moves n s) (size_of s.contents)) (sym start)) m)
      go false e m = m

  pub stand_files : (file stop : ℕ) (fs : List (List PlacedSection)) (os : List Object) → ((j k : ℕ) → starts (file + j) k ≡ start_at (slice_get fs j) k) → ChosenFiles to stop fs os → Stand starts stop (inputs_of to file os)
  stand_files file stop [] [] at h = tt
  stand_files file stop [] (o ∷ os) at h = absurd h
  stand_files file stop (f ∷ fs) [] at h = absurd h
  stand_files file stop (f ∷ fs) (o ∷ os) at h =
      stand_file file o 0 stop f o.sections (inputs_of to (suc file) os) (λ k. ap (starts file) (let e : 0 + k ≡ k = omega arith in e) ∙ ap (λ n. starts n k) (let e : file ≡ file + 0 = omega arith in e) ∙ at 0 k) h.0
      (stand_files (suc file) (ended to stop o.sections) fs os (λ j k. ap (λ n. starts n k) (let e : suc file + j ≡ file + suc j = omega arith in e) ∙ at (suc j) k) h.1)

-- ---- whatever starts they have

abbrev last : ℕ → List InputSection → ℕ
last stop [] = stop
last stop (i ∷ is) = last (end_behind stop i.section) is

abbrev gaps_last : ℕ → List InputSection → List Region
gaps_last stop [] = []
gaps_last stop (i ∷ is) = gap_between stop (start_behind stop i.section) ++ gaps_last (end_behind stop i.section) is

ends_at : (starts : Starts) (i : InputSection) (stop : ℕ) → start_of starts i ≡ start_behind stop i.section → start_of starts i + size starts i ≡ end_behind stop i.section
ends_at starts i stop e = ap (λ n. n + new_offset (moves n i.section) (size_of i.section.contents)) e

end_is : (starts : Starts) (stop : ℕ) (is : List InputSection) → Stand starts stop is → sections_end starts stop is ≡ last stop is
end_is starts stop [] h = refl
end_is starts stop (i ∷ is) h =
    let e = ends_at starts i stop h.0 in
    end_is starts (start_of starts i + size starts i) is h.1 ∙ ap (λ n. last n is) e

gaps_are : (starts : Starts) (stop : ℕ) (is : List InputSection) → Stand starts stop is → gaps_of starts stop is ≡ gaps_last stop is
gaps_are starts stop [] h = refl
gaps_are starts stop (i ∷ is) h =
    let start = start_of starts i in
    go (nat_lt stop start) (gaps_of starts (start + size starts i) is)
    ∙ ap (λ n. gap_between stop n ++ gaps_of starts (start + size starts i) is) h.0
    ∙ ap (λ l. gap_between stop (start_behind stop i.section) ++ l) (gaps_are starts (start + size starts i) is h.1 ∙ ap (λ n. gaps_last n is) (ends_at starts i stop h.0))
  where
    go : (b : Bool) (rest : List Region) → (if b then record { start = stop; end = start_of starts i } ∷ rest else rest) ≡ (if b then record { start = stop; end = start_of starts i } ∷ [] else []) ++ rest
    go true rest = refl
    go false rest = refl

module _ (to : Section → Bool) where
  last_file : (file : ℕ) (o : Object) (index stop : ℕ) (ss : List Section) (rest : List InputSection) → last stop (inputs_from to file o index ss ++ rest) ≡ last (ended to stop ss) rest
  last_file file o index stop [] rest = refl
  last_file file o index stop (s ∷ ss) rest = go (to s) (last_file file o (suc index) (next to stop s) ss rest)
    where
      go : (b : Bool) → last (if b then end_behind stop s else stop) (inputs_from to file o (suc index) ss ++ rest) ≡ last (ended to (next to stop s) ss) rest
          → last stop ((if b then record { file = file; object = o; index = index; section = s } ∷ inputs_from to file o (suc index) ss else inputs_from to file o (suc index) ss) ++ rest)
          ≡ last (ended to (next to stop s) ss) rest
      go true h = h
      go false h = h

  last_files : (file stop : ℕ) (os : List Object) → last stop (inputs_of to file os) ≡ ended_files to stop os
  last_files file stop [] = refl
  last_files file stop (o ∷ os) = last_file file o 0 stop o.sections (inputs_of to (suc file) os) ∙ last_files (suc file) (ended to stop o.sections) os

  greatest_file : (file : ℕ) (o : Object) (index : ℕ) (ss : List Section) (rest : List InputSection) → greatest (inputs_from to file o index ss ++ rest) ≡ max (greatest_in to ss) (greatest rest)
  greatest_file file o index [] rest = one rest
    where
      one : (rest : List InputSection) → greatest rest ≡ max 1 (greatest rest)
      one [] = refl
      one (i ∷ is) = let h = one is in omega arith
  greatest_file file o index (s ∷ ss) rest = go (to s) (greatest_file file o (suc index) ss rest)
    where
      go : (b : Bool) → greatest (inputs_from to file o (suc index) ss ++ rest) ≡ max (greatest_in to ss) (greatest rest)
          → greatest ((if b then record { file = file; object = o; index = index; section = s } ∷ inputs_from to file o (suc index) ss else inputs_from to file o (suc index) ss) ++ rest)
          ≡ max (max (if b then begins_at s else 1) (greatest_in to ss)) (greatest rest)
      go true h = omega arith
      go false h = let one = greatest_one ss in omega arith
        where
          greatest_one : (ss : List Section) → 0 < greatest_in to ss
          greatest_one [] = omega arith
          greatest_one (s ∷ ss) = let h = greatest_one ss in omega arith

  pub greatest_is : (file : ℕ) (os : List Object) → greatest (inputs_of to file os) ≡ greatest_of to os
  greatest_is file [] = refl
  greatest_is file (o ∷ os) = greatest_file file o 0 o.sections (inputs_of to (suc file) os) ∙ ap (max (greatest_in to o.sections)) (greatest_is (suc file) os)

  -- however sections start that stand one behind another, they end there
  pub stand_ends : (starts : Starts) (stop : ℕ) (os : List Object) → Stand starts stop (inputs_of to 1 os) → sections_end starts stop (inputs_of to 1 os) ≡ ended_files to stop os
  stand_ends starts stop os h = end_is starts stop (inputs_of to 1 os) h ∙ last_files 1 stop os

gaps_file : (file : ℕ) (o : Object) (index stop : ℕ) (ss : List Section) (rest : List InputSection)
    → gaps_last stop (inputs_from goes_to_text file o index ss ++ rest) ≡ gapped stop ss ++ gaps_last (ended goes_to_text stop ss) rest
gaps_file file o index stop [] rest = refl
gaps_file file o index stop (s ∷ ss) rest = go (goes_to_text s) (gaps_file file o (suc index) (next goes_to_text stop s) ss rest)
  where
    go : (b : Bool)
        → gaps_last (if b then end_behind stop s else stop) (inputs_from goes_to_text file o (suc index) ss ++ rest)
        ≡ gapped (next goes_to_text stop s) ss ++ gaps_last (ended goes_to_text (next goes_to_text stop s) ss) rest
        → gaps_last stop ((if b then record { file = file; object = o; index = index; section = s } ∷ inputs_from goes_to_text file o (suc index) ss else inputs_from goes_to_text file o (suc index) ss) ++ rest)
        ≡ ((if b then gap_between stop (start_behind stop s) else []) ++ gapped (next goes_to_text stop s) ss) ++ gaps_last (ended goes_to_text (next goes_to_text stop s) ss) rest
    go true h =
        ap (λ l. gap_between stop (start_behind stop s) ++ l) h
        ∙ sym (append_assoc (gap_between stop (start_behind stop s)) (gapped (next goes_to_text stop s) ss) (gaps_last (ended goes_to_text (next goes_to_text stop s) ss) rest))
    go false h = h

gaps_files : (file stop : ℕ) (os : List Object) → gaps_last stop (inputs_of goes_to_text file os) ≡ gapped_files stop os
gaps_files file stop [] = refl
gaps_files file stop (o ∷ os) =
    gaps_file file o 0 stop o.sections (inputs_of goes_to_text (suc file) os) ∙ ap (λ l. gapped stop o.sections ++ l) (gaps_files (suc file) (ended goes_to_text stop o.sections) os)

pub stand_gaps : (starts : Starts) (stop : ℕ) (os : List Object) → Stand starts stop (inputs_of goes_to_text 1 os) → gaps_of starts stop (inputs_of goes_to_text 1 os) ≡ gapped_files stop os
stand_gaps starts stop os h = gaps_are starts stop (inputs_of goes_to_text 1 os) h ∙ gaps_files 1 stop os
