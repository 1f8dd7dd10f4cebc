-- The regions behind the text.

use Rattle.std.proofs.Common.{◌≡◌, ◌<◌, ◌≤◌, ℕ, List, [], ◌∷◌, length, map, refl, sym, ap, subst, ◌∙◌, arith, Bool}
use Rattle.rv_size_laws.specs.Alignment.{aligned}
use Rattle.rv_map_laws.specs.declared.map.Region.{Region}
use Rattle.rv_object_laws.specs.Object.{Section, Object}
use Rattle.rv_placement.specs.declared.destination.Destination.TheVariants.{Rodata, Data, Bss}
use Rattle.rv_placement.specs.declared.placement.PlacedSection.{PlacedSection}
use Rattle.rv_placement.specs.Walk.{goes, ended, ended_files, started_files, greatest_of, AreBehind}
use Rattle.rv_link_laws.proofs.ListsLemmas.{above}
use Rattle.rv_placement.proofs.WalksLemmas.{grows_files, length-started}
use Rattle.rv_placement.proofs.AlignmentsLemmas.{greatest_some_of as greatest_some}

module _ (os : List Object) (stop : ℕ) (rodata variables bss : Region) (h : AreBehind os stop rodata variables bss) where
  pub bss_up : (variables.end ≤ bss.start) × (bss.start ≤ bss.end)
  bss_up =
      let a = subst (λ n. variables.end ≤ n) (sym h.bss_start) (above (greatest_of (goes Bss) os) variables.end (greatest_some (goes Bss) os)) in
      let b = subst (λ n. bss.start ≤ n) (sym h.bss_end) (grows_files (goes Bss) bss.start os) in
      (a, b)

  pub data_up : (rodata.end ≤ variables.start) × (variables.start ≤ variables.end)
  data_up =
      let a = subst (λ n. rodata.end ≤ n) (sym h.data_start) (above 4096 rodata.end (omega arith)) in
      let b = subst (λ n. variables.start ≤ n) (sym h.data_end) (grows_files (goes Data) variables.start os) in
      (a, b)

  pub rodata_up : (stop ≤ rodata.start) × (rodata.start ≤ rodata.end)
  rodata_up =
      let a = subst (λ n. stop ≤ n) (sym h.rodata_start) (above 4096 stop (omega arith)) in
      let b = subst (λ n. rodata.start ≤ n) (sym h.rodata_end) (grows_files (goes Rodata) rodata.start os) in
      (a, b)

-- ---- refusals

pub rodata_far : (os : List Object) (stop start limit : ℕ) → start ≡ aligned 4096 stop → limit < ended_files (goes Rodata) start os → (a b c : Region) → AreBehind os stop a b c → limit < c.end
rodata_far os stop start limit is far a b c h =
    let e : a.end ≡ ended_files (goes Rodata) start os = h.rodata_end ∙ ap (λ n. ended_files (goes Rodata) n os) (h.rodata_start ∙ sym is) in
    let x = data_up os stop a b c h in
    let y = bss_up os stop a b c h in
    omega arith

pub data_far : (os : List Object) (stop first second middle limit : ℕ) → first ≡ aligned 4096 stop → middle ≡ ended_files (goes Rodata) first os → second ≡ aligned 4096 middle
    → limit < ended_files (goes Data) second os → (a b c : Region) → AreBehind os stop a b c → limit < c.end
data_far os stop first second middle limit is ends then far a b c h =
    let e : a.end ≡ middle = h.rodata_end ∙ ap (λ n. ended_files (goes Rodata) n os) (h.rodata_start ∙ sym is) ∙ sym ends in
    let f : b.end ≡ ended_files (goes Data) second os = h.data_end ∙ ap (λ n. ended_files (goes Data) n os) (h.data_start ∙ ap (aligned 4096) e ∙ sym then) in
    let y = bss_up os stop a b c h in
    omega arith

-- ---- lengths

pub length-files : (to : Section → Bool) (stop : ℕ) (fs : List (List PlacedSection)) (os : List Object) → map length (started_files to stop fs os) ≡ map length fs
length-files to stop [] os = refl
length-files to stop (f ∷ fs) [] = refl
length-files to stop (f ∷ fs) (o ∷ os) =
    ap (λ n. n ∷ map length (started_files to (ended to stop o.sections) fs os)) (length-started to stop f o.sections) ∙ ap (λ l. length f ∷ l) (length-files to (ended to stop o.sections) fs os)
