-- All sections have a layout.

use Rattle.std.proofs.Common.{zero, suc, ◌≡◌, ◌+◌, ◌-◌, ℕ, Bool, true, false, Option, Some, None, List, [], ◌∷◌, ◌++◌, refl, sym, ap, subst, ◌∙◌, arith}
use Rattle.std.specs.Prelude.{if◌then◌else◌, not, ◌&&◌}
use Rattle.std.specs.List.{slice_get}
use Rattle.rv_size_laws.specs.Alignment.{aligned}
use Rattle.rv_map_laws.specs.declared.map.Region.{Region}
use Rattle.rv_object_laws.specs.Object.{Section, Object, size_of}
use Rattle.rv_link_laws.specs.Moves.{moves, new_offset}
use Rattle.rv_link_laws.specs.Inputs.{Starts, InputSection, has_no_bytes, goes_to_text, goes_to_bss, inputs, inputs_from, inputs_of, Stand, greatest}
use Rattle.rv_link_laws.specs.Layout.{object_section}
use Rattle.rv_placement.specs.declared.destination.Destination.TheVariants.{Rodata, Data, Bss}
use Rattle.rv_placement.specs.Placement.{HasLayout}
use Rattle.rv_placement.specs.Walk.{goes, start_behind, end_behind, next, ended, ended_files}
use Rattle.rv_placement.proofs.PlacedLemmas.{holds, rodata_text, data_text, bss_text}

-- where a section starts that goes to a region
abbrev place_in : (Section → Bool) → ℕ → List Section → ℕ → ℕ
place_in to stop [] k = 0
place_in to stop (s ∷ ss) zero = start_behind stop s
place_in to stop (s ∷ ss) (suc k) = place_in to (next to stop s) ss k

abbrev place_of : (Section → Bool) → ℕ → List Object → ℕ → ℕ → ℕ
place_of to stop [] j k = 0
place_of to stop (o ∷ os) zero k = place_in to stop o.sections k
place_of to stop (o ∷ os) (suc j) k = place_of to (ended to stop o.sections) os j k

module _ (starts : Starts) (to : Section → Bool) where
  stand_in : (file : ℕ) (o : Object) (index stop : ℕ) (ss : List Section) (rest : List InputSection)
      → ((k : ℕ) (s : Section) → slice_get ss k ≡ Some s → to s ≡ true → starts file (index + k) ≡ place_in to stop ss k) → Stand starts (ended to stop ss) rest
      → Stand starts stop (inputs_from to file o index ss ++ rest)
  stand_in file o index stop [] rest at more = more
  stand_in file o index stop (s ∷ ss) rest at more =
      go (to s) refl (stand_in file o (suc index) (next to stop s) ss rest (λ k r e f. ap (starts file) (let e : suc index + k ≡ index + suc k = omega arith in e) ∙ at (suc k) r e f) more)
    where
      here : to s ≡ true → starts file index ≡ start_behind stop s
      here e = ap (starts file) (let e : index ≡ index + 0 = omega arith in e) ∙ at 0 s refl e

      go : (b : Bool) → to s ≡ b → Stand starts (if b then end_behind stop s else stop) (inputs_from to file o (suc index) ss ++ rest)
          → Stand starts stop ((if b then record { file = file; object = o; index = index; section = s } ∷ inputs_from to file o (suc index) ss else inputs_from to file o (suc index) ss) ++ rest)
      go true e m =
          let start : starts file index ≡ start_behind stop s = here e in
          (start, subst (λ n. Stand starts n (inputs_from to file o (suc index) ss ++ rest)) (ap (λ n. n + new_offset (moves n s) (size_of s.contents)) (sym start)) m)
      go false e m = m

  stand_of : (file stop : ℕ) (os : List Object) → ((j k : ℕ) (s : Section) → object_section os j k ≡ Some s → to s ≡ true → starts (file + j) k ≡ place_of to stop os j k) → Stand starts stop (inputs_of to file os)
  stand_of file stop [] at = tt
  stand_of file stop (o ∷ os) at =
      stand_in file o 0 stop o.sections (inputs_of to (suc file) os)
      (λ k s e f. ap (starts file) (let e : 0 + k ≡ k = omega arith in e) ∙ ap (λ n. starts n k) (let e : file ≡ file + 0 = omega arith in e) ∙ at 0 k s e f)
      (stand_of (suc file) (ended to stop o.sections) os (λ j k s e f. ap (λ n. starts n k) (let e : suc file + j ≡ file + suc j = omega arith in e) ∙ at (suc j) k s e f))

-- ---- no section goes to two regions

data_rodata : (l e n w : Bool) → (l && not e && not n && w) ≡ true → (l && not e && not n && not w) ≡ false
data_rodata true true n w h = refl
data_rodata true false true w h = refl
data_rodata true false false true h = refl
data_rodata true false false false h = absurd (cc)
data_rodata false e n w h = refl

bss_rodata : (l e n w : Bool) → (l && not e && n) ≡ true → (l && not e && not n && not w) ≡ false
bss_rodata true true n w h = refl
bss_rodata true false true w h = refl
bss_rodata true false false w h = absurd (cc)
bss_rodata false e n w h = refl

bss_data : (l e n w : Bool) → (l && not e && n) ≡ true → (l && not e && not n && w) ≡ false
bss_data true true n w h = refl
bss_data true false true w h = refl
bss_data true false false w h = absurd (cc)
bss_data false e n w h = refl

-- ---- the layout

module _ (os : List Object) (first : ℕ) where
  abbrev text : Region
  text = record { start = first; end = ended_files goes_to_text first os }

  abbrev region : (Section → Bool) → ℕ → Region
  region to start = record { start = start; end = ended_files to start os }

  abbrev rodata : Region
  rodata = region (goes Rodata) (aligned 4096 text.end)

  abbrev variables : Region
  variables = region (goes Data) (aligned 4096 rodata.end)

  abbrev bss : Region
  bss = region (goes Bss) (aligned (greatest (inputs goes_to_bss os)) variables.end)

  abbrev chosen : (a b c : Bool) → ℕ → ℕ → ℕ → ℕ → ℕ
  chosen a b c w x y z = if a then w else (if b then x else (if c then y else z))

  abbrev by_section : ℕ → ℕ → Option Section → ℕ
  by_section j k None = 0
  by_section j k (Some s) =
      chosen (goes_to_text s) (goes Rodata s) (goes Data s) (place_of goes_to_text first os j k) (place_of (goes Rodata) rodata.start os j k) (place_of (goes Data) variables.start os j k) (place_of (goes Bss) bss.start os j k)

  abbrev starts : Starts
  starts file k = by_section (file - 1) k (object_section os (file - 1) k)

  found : (j k : ℕ) (s : Section) → object_section os j k ≡ Some s → starts (1 + j) k ≡ by_section j k (Some s)
  found j k s at = ap (λ n. by_section n k (object_section os n k)) (let e : 1 + j - 1 ≡ j = omega arith in e) ∙ ap (by_section j k) at

  by_text : (a b c : Bool) (w x y z : ℕ) → a ≡ true → chosen a b c w x y z ≡ w
  by_text a b c w x y z e = ap (λ a. chosen a b c w x y z) e

  by_rodata : (a b c : Bool) (w x y z : ℕ) → a ≡ false → b ≡ true → chosen a b c w x y z ≡ x
  by_rodata a b c w x y z e f = ap (λ a. chosen a b c w x y z) e ∙ ap (λ b. chosen false b c w x y z) f

  by_data : (a b c : Bool) (w x y z : ℕ) → a ≡ false → b ≡ false → c ≡ true → chosen a b c w x y z ≡ y
  by_data a b c w x y z e f g = ap (λ a. chosen a b c w x y z) e ∙ ap (λ b. chosen false b c w x y z) f ∙ ap (λ c. chosen false false c w x y z) g

  by_bss : (a b c : Bool) (w x y z : ℕ) → a ≡ false → b ≡ false → c ≡ false → chosen a b c w x y z ≡ z
  by_bss a b c w x y z e f g = ap (λ a. chosen a b c w x y z) e ∙ ap (λ b. chosen false b c w x y z) f ∙ ap (λ c. chosen false false c w x y z) g

  pub has_layout : HasLayout os first
  has_layout = (
    starts,
    text,
    rodata,
    variables,
    bss,
    holds starts goes_to_text text first os refl (stand_of starts goes_to_text 1 first os (λ j k s at e. found j k s at ∙ by_text (goes_to_text s) (goes Rodata s) (goes Data s) _ _ _ _ e)) refl,
    holds starts (goes Rodata) rodata rodata.start os refl
        (stand_of starts (goes Rodata) 1 rodata.start os
        (λ j k s at e. found j k s at ∙ by_rodata (goes_to_text s) (goes Rodata s) (goes Data s) _ _ _ _ (rodata_text s.loaded s.executable (has_no_bytes s.contents) s.writable e) e)) refl,
    holds starts (goes Data) variables variables.start os refl
        (stand_of starts (goes Data) 1 variables.start os
        (λ j k s at e. found j k s at ∙ by_data (goes_to_text s) (goes Rodata s) (goes Data s) _ _ _ _ (data_text s.loaded s.executable (has_no_bytes s.contents) s.writable e)
        (data_rodata s.loaded s.executable (has_no_bytes s.contents) s.writable e) e)) refl,
    holds starts (goes Bss) bss bss.start os refl
        (stand_of starts (goes Bss) 1 bss.start os
        (λ j k s at e. found j k s at ∙ by_bss (goes_to_text s) (goes Rodata s) (goes Data s) _ _ _ _ (bss_text s.loaded s.executable (has_no_bytes s.contents) s.writable e)
        (bss_rodata s.loaded s.executable (has_no_bytes s.contents) s.writable e) (bss_data s.loaded s.executable (has_no_bytes s.contents) s.writable e))) refl,
  )
