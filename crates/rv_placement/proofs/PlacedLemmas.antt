-- Passes over all sections place them as the layout says, or they are too large.

use Rattle.std.proofs.Common.{zero, suc, ◌≡◌, ◌<◌, ◌≤◌, ◌+◌, ◌-◌, ◌^◌, ℕ, Bool, true, false, Option, Some, None, List, [], ◌∷◌, length, map, refl, sym, ap, subst, ◌∙◌, arith, inl, inr}
use Rattle.std.specs.Prelude.{not, ◌&&◌, option_map}
use Rattle.std.specs.Global.{Vec}
use Rattle.std.specs.List.{AllZip, slice_get}
use Rattle.std.proofs.lemmas.Option.{slice_get-map}
use Rattle.std.proofs.lemmas.Slice.Zip.{AllZip-long}
use Rattle.rv_size_laws.specs.Alignment.{aligned}
use Rattle.rv_isa_laws.specs.Platform.{memory_limit}
use Rattle.rv_image_laws.specs.Free.{highest, free_until}
use Rattle.rv_image_laws.proofs.FreeLemmas.{free_low}
use Rattle.rv_link_laws.specs.declared.bounds.Ground.{Ground}
use Rattle.std.proofs.Math.Nat.{le_trans}
use Rattle.rv_map_laws.specs.declared.map.Region.{Region}
use Rattle.rv_object_laws.specs.Object.{Section, Object, size_of}
use Rattle.rv_link_laws.specs.Moves.{moves, new_offset}
use Rattle.rv_link_laws.specs.Inputs.{Starts, has_no_bytes, goes_to_text, goes_to_rodata, goes_to_data, goes_to_bss, inputs, inputs_of, Stand, Holds, sections_end, greatest}
use Rattle.rv_link_laws.specs.Layout.{memory_of, section_in, object_section, IsLayout, IsTooLarge}
use Rattle.rv_placement.specs.declared.destination.Destination.TheVariants.{Rodata, Data, Bss}
use Rattle.rv_placement.specs.declared.placement.PlacedSection.{PlacedSection}
use Rattle.rv_placement.specs.declared.placement.Placement.{Placement}
use Rattle.rv_placement.specs.Placement.{starts_of, start_in, placed_in, placed_at, layout_of, IsPlacement}
use Rattle.rv_placement.specs.Walk.{goes, ended_files, started_files, text_files, gapped_files, greatest_of, lists_of, behind_files, IsKept, AreKept, AreBehind, AreFar}
use Rattle.rv_placement.proofs.FoundLemmas.{each_at, start_is}
use Rattle.rv_placement.proofs.WalksLemmas.{grows_files}
use Rattle.rv_placement.proofs.BehindLemmas.{rodata_up, data_up, bss_up}
use Rattle.rv_placement.proofs.StandingLemmas.{start_at, ChosenFiles, files_text, files_started, files_still, files_kept, stand_files, stand_ends, stand_gaps, greatest_is}

-- ---- no section goes to two regions

text_rodata : (l e n w : Bool) → (l && e) ≡ true → (l && not e && not n && not w) ≡ false
text_rodata true true n w h = refl
text_rodata true false n w h = absurd (cc)
text_rodata false e n w h = absurd (cc)

text_data : (l e n w : Bool) → (l && e) ≡ true → (l && not e && not n && w) ≡ false
text_data true true n w h = refl
text_data true false n w h = absurd (cc)
text_data false e n w h = absurd (cc)

text_bss : (l e n w : Bool) → (l && e) ≡ true → (l && not e && n) ≡ false
text_bss true true n w h = refl
text_bss true false n w h = absurd (cc)
text_bss false e n w h = absurd (cc)

pub rodata_text : (l e n w : Bool) → (l && not e && not n && not w) ≡ true → (l && e) ≡ false
rodata_text true true n w h = absurd (cc)
rodata_text true false n w h = refl
rodata_text false e n w h = refl

pub data_text : (l e n w : Bool) → (l && not e && not n && w) ≡ true → (l && e) ≡ false
data_text true true n w h = absurd (cc)
data_text true false n w h = refl
data_text false e n w h = refl

pub bss_text : (l e n w : Bool) → (l && not e && n) ≡ true → (l && e) ≡ false
bss_text true true n w h = absurd (cc)
bss_text true false n w h = refl
bss_text false e n w h = refl

rodata_data : (l e n w : Bool) → (l && not e && not n && not w) ≡ true → (l && not e && not n && w) ≡ false
rodata_data true true n w h = absurd (cc)
rodata_data true false true w h = refl
rodata_data true false false true h = absurd (cc)
rodata_data true false false false h = refl
rodata_data false e n w h = refl

rodata_bss : (l e n w : Bool) → (l && not e && not n && not w) ≡ true → (l && not e && n) ≡ false
rodata_bss true true n w h = absurd (cc)
rodata_bss true false true w h = absurd (cc)
rodata_bss true false false w h = refl
rodata_bss false e n w h = refl

data_bss : (l e n w : Bool) → (l && not e && not n && w) ≡ true → (l && not e && n) ≡ false
data_bss true true n w h = absurd (cc)
data_bss true false true w h = absurd (cc)
data_bss true false false w h = refl
data_bss false e n w h = refl

-- ---- what is placed at an index

zipped_at : (ss : List Section) (qs : List PlacedSection) → AllZip IsKept ss qs → (k : ℕ) (s : Section) (q : PlacedSection) → slice_get ss k ≡ Some s → slice_get qs k ≡ Some q → IsKept s q
zipped_at [] [] h k s q e f = absurd (cc)
zipped_at [] (p ∷ qs) h k s q e f = absurd h
zipped_at (r ∷ ss) [] h k s q e f = absurd h
zipped_at (r ∷ ss) (p ∷ qs) h zero s q e f =
    let same : r ≡ s = cc in
    let also : p ≡ q = cc in
    subst (λ x. IsKept x q) same (subst (λ x. IsKept r x) also h.0)
zipped_at (r ∷ ss) (p ∷ qs) h (suc k) s q e f = zipped_at ss qs h.1 k s q e f

kept_at : (fs : List (Vec PlacedSection)) (os : List Object) → AllZip AreKept os (lists_of fs) → (file index : ℕ) (s : Section) (q : PlacedSection)
    → section_in (slice_get os file) index ≡ Some s → placed_in (slice_get fs file) index ≡ Some q → IsKept s q
kept_at [] [] h file index s q e f = absurd (cc)
kept_at [] (o ∷ os) h file index s q e f = absurd h
kept_at (g ∷ fs) [] h file index s q e f = absurd h
kept_at (g ∷ fs) (o ∷ os) h zero index s q e f = zipped_at o.sections g.items h.0 index s q e f
kept_at (g ∷ fs) (o ∷ os) h (suc file) index s q e f = kept_at fs os h.1 file index s q e f

each_kept : (fs : List (Vec PlacedSection)) (os : List Object) → AllZip AreKept os (lists_of fs) → map (λ f. length f.items) fs ≡ map (λ o. length o.sections) os
each_kept [] [] h = refl
each_kept [] (o ∷ os) h = absurd h
each_kept (g ∷ fs) [] h = absurd h
each_kept (g ∷ fs) (o ∷ os) h =
    ap (λ n. n ∷ map (λ (f : Vec PlacedSection). length f.items) fs) (AllZip-long IsKept o.sections g.items h.0) ∙ ap (λ l. length o.sections ∷ l) (each_kept fs os h.1)

pub each_list : (fs : List (Vec PlacedSection)) (os : List Object) → AllZip AreKept os (lists_of fs) → map length (lists_of fs) ≡ map (λ o. length o.sections) os
each_list [] [] h = refl
each_list [] (o ∷ os) h = absurd h
each_list (g ∷ fs) [] h = absurd h
each_list (g ∷ fs) (o ∷ os) h =
    ap (λ n. n ∷ map length (lists_of fs)) (AllZip-long IsKept o.sections g.items h.0) ∙ ap (λ l. length o.sections ∷ l) (each_list fs os h.1)

starts_at : (p : Placement) (j k : ℕ) → starts_of p (1 + j) k ≡ start_at (slice_get (lists_of p.files.items) j) k
starts_at p j k =
    ap (λ n. start_in (placed_at p n k)) (let e : 1 + j - 1 ≡ j = omega arith in e)
    ∙ go (slice_get p.files.items j) ∙ ap (λ x. start_at x k) (sym (slice_get-map (λ (v : Vec PlacedSection). v.items) p.files.items j))
  where
    go : (x : Option (Vec PlacedSection)) → start_in (placed_in x k) ≡ start_at (option_map (λ v. v.items) x) k
    go None = refl
    go (Some f) = refl

-- ---- the layout

pub holds : (starts : Starts) (to : Section → Bool) (region : Region) (place : ℕ) (os : List Object) → region.start ≡ place → Stand starts region.start (inputs_of to 1 os)
    → region.end ≡ ended_files to region.start os → Holds starts region place (inputs_of to 1 os)
holds starts to region place os e st ends = (
  e,
  subst (λ n. Stand starts n (inputs_of to 1 os)) e st,
  ends ∙ sym (stand_ends to starts region.start os st) ∙ ap (λ n. sections_end starts n (inputs_of to 1 os)) e,
)

module _ (os : List Object) (g : Ground) (free : g.ceiling ≤ free_until g.text) (p : Placement) (fs : List (List PlacedSection)) (begins : p.text.start ≡ g.text) (ends : p.text.end ≡ ended_files goes_to_text g.text os)
    (behind : AreBehind os p.text.end p.rodata p.data p.bss) (ends_low : p.bss.end ≤ g.ceiling) (text : map (λ f. map (λ q. q.start) f) fs ≡ text_files g.text os) (kept : AllZip AreKept os fs)
    (lists : lists_of p.files.items ≡ behind_files fs p.rodata p.data p.bss os) (gaps : p.gaps.items ≡ gapped_files g.text os)
    (memory : memory_of p.text p.rodata p.data p.bss ≤ memory_limit) where
  -- below the last page
  high : g.ceiling ≤ highest
  high = le_trans free (free_low g.text)

  abbrev after_rodata : List (List PlacedSection)
  after_rodata = started_files (goes Rodata) p.rodata.start fs os

  abbrev after_data : List (List PlacedSection)
  after_data = started_files (goes Data) p.data.start after_rodata os

  abbrev after_bss : List (List PlacedSection)
  after_bss = started_files (goes Bss) p.bss.start after_data os

  ups : (p.text.end ≤ p.rodata.start) × (p.rodata.start ≤ p.rodata.end) × (p.rodata.end ≤ p.data.start) × (p.data.start ≤ p.data.end) × (p.data.end ≤ p.bss.start) × (p.bss.start ≤ p.bss.end)
  ups =
      let a = rodata_up os p.text.end p.rodata p.data p.bss behind in
      let b = data_up os p.text.end p.rodata p.data p.bss behind in
      let c = bss_up os p.text.end p.rodata p.data p.bss behind in
      (a.0, a.1, b.0, b.1, c.0, c.1)

  kept_rodata : AllZip AreKept os after_rodata
  kept_rodata =
      let u = ups in
      let few : p.rodata.end ≤ g.ceiling = omega arith in
      files_kept (goes Rodata) p.rodata.start g.ceiling fs os (λ s. rodata_text s.loaded s.executable (has_no_bytes s.contents) s.writable) (omega (arith, high)) (subst (λ n. n ≤ g.ceiling) behind.rodata_end few) kept

  kept_data : AllZip AreKept os after_data
  kept_data =
      let u = ups in
      let few : p.data.end ≤ g.ceiling = omega arith in
      files_kept (goes Data) p.data.start g.ceiling after_rodata os (λ s. data_text s.loaded s.executable (has_no_bytes s.contents) s.writable) (omega (arith, high)) (subst (λ n. n ≤ g.ceiling) behind.data_end few) kept_rodata

  kept_bss : AllZip AreKept os after_bss
  kept_bss =
      files_kept (goes Bss) p.bss.start g.ceiling after_data os (λ s. bss_text s.loaded s.executable (has_no_bytes s.contents) s.writable) (omega (arith, high)) (subst (λ n. n ≤ g.ceiling) behind.bss_end ends_low) kept_data

  chosen_text : ChosenFiles goes_to_text g.text after_bss os
  chosen_text =
      files_still goes_to_text (goes Bss) g.text p.bss.start after_data os (λ s. text_bss s.loaded s.executable (has_no_bytes s.contents) s.writable)
      (files_still goes_to_text (goes Data) g.text p.data.start after_rodata os (λ s. text_data s.loaded s.executable (has_no_bytes s.contents) s.writable)
      (files_still goes_to_text (goes Rodata) g.text p.rodata.start fs os (λ s. text_rodata s.loaded s.executable (has_no_bytes s.contents) s.writable) (files_text g.text fs os text)))

  chosen_rodata : ChosenFiles (goes Rodata) p.rodata.start after_bss os
  chosen_rodata =
      files_still (goes Rodata) (goes Bss) p.rodata.start p.bss.start after_data os (λ s. rodata_bss s.loaded s.executable (has_no_bytes s.contents) s.writable)
      (files_still (goes Rodata) (goes Data) p.rodata.start p.data.start after_rodata os (λ s. rodata_data s.loaded s.executable (has_no_bytes s.contents) s.writable) (files_started (goes Rodata) p.rodata.start fs os kept))

  chosen_data : ChosenFiles (goes Data) p.data.start after_bss os
  chosen_data =
      files_still (goes Data) (goes Bss) p.data.start p.bss.start after_data os (λ s. data_bss s.loaded s.executable (has_no_bytes s.contents) s.writable)
      (files_started (goes Data) p.data.start after_rodata os kept_rodata)

  chosen_bss : ChosenFiles (goes Bss) p.bss.start after_bss os
  chosen_bss = files_started (goes Bss) p.bss.start after_data os kept_data

  stand : (to : Section → Bool) (stop : ℕ) → ChosenFiles to stop after_bss os → Stand (starts_of p) stop (inputs_of to 1 os)
  stand to stop h = stand_files (starts_of p) to 1 stop (lists_of p.files.items) os (starts_at p) (subst (λ l. ChosenFiles to stop l os) (sym lists) h)

  all_kept : AllZip AreKept os (lists_of p.files.items)
  all_kept = subst (AllZip AreKept os) (sym lists) kept_bss

  text_up : p.text.start ≤ p.text.end
  text_up = let h = grows_files goes_to_text g.text os in let more : g.text ≤ p.text.end = subst (λ n. g.text ≤ n) (sym ends) h in omega arith

  low : (file index : ℕ) (s : Section) → object_section os file index ≡ Some s
      → (size_of s.contents < 2 ^ 64) × (starts_of p (file + 1) index + new_offset (moves (starts_of p (file + 1) index) s) (size_of s.contents) < 2 ^ 64)
  low file index s at =
      let (q, there) = each_at p.files.items os (each_kept p.files.items os all_kept) file index s at in
      let kept = kept_at p.files.items os all_kept file index s q at there in
      (kept.1, subst (λ n. n + new_offset (moves n s) (size_of s.contents) < 2 ^ 64) (sym (start_is p file index q (sym there))) kept.2)

  is_laid : IsLayout os g (layout_of p)
  is_laid = record {
    low = low;
    text = (begins, stand goes_to_text g.text chosen_text, ends ∙ sym (stand_ends goes_to_text (starts_of p) g.text os (stand goes_to_text g.text chosen_text)));
    gaps = gaps ∙ sym (stand_gaps (starts_of p) g.text os (stand goes_to_text g.text chosen_text));
    rodata = holds (starts_of p) (goes Rodata) p.rodata (aligned 4096 p.text.end) os behind.rodata_start (stand (goes Rodata) p.rodata.start chosen_rodata) behind.rodata_end;
    «data» = holds (starts_of p) (goes Data) p.data (aligned 4096 p.rodata.end) os behind.data_start (stand (goes Data) p.data.start chosen_data) behind.data_end;
    bss = holds (starts_of p) (goes Bss) p.bss (aligned (greatest (inputs goes_to_bss os)) p.data.end) os (behind.bss_start ∙ ap (λ n. aligned n p.data.end) (sym (greatest_is (goes Bss) 1 os))) (stand (goes Bss) p.bss.start chosen_bss)
        behind.bss_end;
    ordered = let u = ups in (text_up, u.0, u.1, u.2, u.3, u.4, u.5);
    below = ends_low;
    memory = memory;
  }

  pub is_placement : IsPlacement os g p
  is_placement = record {
    free = free;
    each = each_kept p.files.items os all_kept;
    planned = λ file index s q at there. (kept_at p.files.items os all_kept file index s q at there).0;
    laid = is_laid;
  }

-- ---- too large

ends_so : (starts : Starts) (to : Section → Bool) (region : Region) (place : ℕ) (os : List Object) → Holds starts region place (inputs_of to 1 os) → region.end ≡ ended_files to region.start os
ends_so starts to region place os h = h.2 ∙ stand_ends to starts place os h.1 ∙ ap (λ n. ended_files to n os) (sym h.0)

module _ (os : List Object) (g : Ground) (starts : Starts) (text rodata variables bss : Region) (t : Holds starts text g.text (inputs goes_to_text os))
    (r : Holds starts rodata (aligned 4096 text.end) (inputs goes_to_rodata os)) (v : Holds starts variables (aligned 4096 rodata.end) (inputs goes_to_data os))
    (b : Holds starts bss (aligned (greatest (inputs goes_to_bss os)) variables.end) (inputs goes_to_bss os)) where
  text_is : text.end ≡ ended_files goes_to_text g.text os
  text_is = t.2 ∙ stand_ends goes_to_text starts g.text os t.1

  are_behind : AreBehind os text.end rodata variables bss
  are_behind = record {
    rodata_start = r.0;
    rodata_end = ends_so starts (goes Rodata) rodata (aligned 4096 text.end) os r;
    data_start = v.0;
    data_end = ends_so starts (goes Data) variables (aligned 4096 rodata.end) os v;
    bss_start = b.0 ∙ ap (λ n. aligned n variables.end) (greatest_is (goes Bss) 1 os);
    bss_end = ends_so starts (goes Bss) bss (aligned (greatest (inputs goes_to_bss os)) variables.end) os b;
  }

  text_passes : g.ceiling < ended_files goes_to_text g.text os → g.ceiling < bss.end
  text_passes far =
      let x = rodata_up os text.end rodata variables bss are_behind in
      let y = data_up os text.end rodata variables bss are_behind in
      let z = bss_up os text.end rodata variables bss are_behind in
      let e = text_is in
      omega arith

  behind_passes : (stop : ℕ) → stop ≡ ended_files goes_to_text g.text os → AreFar os g.ceiling stop → g.ceiling < bss.end
  behind_passes stop e far = far rodata variables bss (subst (λ n. AreBehind os n rodata variables bss) (text_is ∙ sym e) are_behind)

  too_much : (own : Region) (a c d : Region) → own.start ≡ g.text → own.end ≡ ended_files goes_to_text g.text os → AreBehind os own.end a c d → memory_limit < memory_of own a c d → memory_limit < memory_of text rodata variables bss
  too_much own a c d e f h far =
      let m = are_behind in
      let one : own.start ≡ text.start = e ∙ sym t.0 in
      let two : own.end ≡ text.end = f ∙ sym text_is in
      let three : a.start ≡ rodata.start = h.rodata_start ∙ ap (aligned 4096) two ∙ sym m.rodata_start in
      let four : a.end ≡ rodata.end = h.rodata_end ∙ ap (λ n. ended_files (goes Rodata) n os) three ∙ sym m.rodata_end in
      let five : c.start ≡ variables.start = h.data_start ∙ ap (aligned 4096) four ∙ sym m.data_start in
      let six : c.end ≡ variables.end = h.data_end ∙ ap (λ n. ended_files (goes Data) n os) five ∙ sym m.data_end in
      let seven : d.start ≡ bss.start = h.bss_start ∙ ap (aligned (greatest_of (goes Bss) os)) six ∙ sym m.bss_start in
      let eight : d.end ≡ bss.end = h.bss_end ∙ ap (λ n. ended_files (goes Bss) n os) seven ∙ sym m.bss_end in
      omega arith

pub text_too_large : (os : List Object) (g : Ground) → g.ceiling < ended_files goes_to_text g.text os → IsTooLarge os g
text_too_large os g far starts text rodata variables bss t r v b = inl (text_passes os g starts text rodata variables bss t r v b far)

pub behind_too_large : (os : List Object) (g : Ground) (stop : ℕ) → stop ≡ ended_files goes_to_text g.text os → AreFar os g.ceiling stop → IsTooLarge os g
behind_too_large os g stop e far starts text rodata variables bss t r v b = inl (behind_passes os g starts text rodata variables bss t r v b stop e far)

pub memory_too_large : (os : List Object) (g : Ground) (own a c d : Region) → own.start ≡ g.text → own.end ≡ ended_files goes_to_text g.text os → AreBehind os own.end a c d → memory_limit < memory_of own a c d → IsTooLarge os g
memory_too_large os g own a c d e f h far starts text rodata variables bss t r v b = inr (too_much os g starts text rodata variables bss t r v b own a c d e f h far)
