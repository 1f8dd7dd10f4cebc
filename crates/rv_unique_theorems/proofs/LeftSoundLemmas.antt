-- What collection and relaxation leave of sound objects is sound.

use Rattle.std.proofs.Common.{◌≡◌, ℕ, suc, ◌+◌, ◌-◌, ◌≤◌, Bool, true, false, List, [], ◌∷◌, drop, slice_index_or, refl, sym, ap, subst, ◌∙◌, arith}
use Rattle.std.specs.Prelude.{IsTrue}
use Rattle.std.specs.List.{AllByRecursion}
use Rattle.std.proofs.lemmas.Bool.{and_from}
use Rattle.rv_list_laws.proofs.EachLemmas.{each_from_both, each_get}
use Rattle.rv_size_laws.specs.declared.site.Site.{Site}
use Rattle.rv_size_laws.specs.Calls.{IsText}
use Rattle.rv_object_laws.specs.Object.{Section, Object}
use Rattle.rv_object_laws.specs.Valid.{is_section_alignment, fit_inside, are_paddings}
use Rattle.rv_link_laws.specs.Moves.{Move}
use Rattle.rv_link_laws.specs.Inputs.{goes_to_text}
use Rattle.rv_link_laws.specs.Names.{no_object, object_at}
use Rattle.rv_link_laws.specs.CallSites.{sites_of}
use Rattle.rv_link_laws.specs.Shortened.{Relaxes}
use Rattle.rv_link_laws.specs.Without.{without}
use Rattle.rv_link_laws.proofs.TextInputsLemmas.{IsTextInput}
use Rattle.rv_link_laws.proofs.TextLineLemmas.{text}
use Rattle.rv_cut_laws.specs.Cutting.{AreCuts, AllCut, cut_section, cut_sections, cut_object}
use Rattle.rv_cut_laws.specs.Walk.{AreWalked, walked, object_moves, passed_all}
use Rattle.rv_cut_laws.proofs.ShortLemmas.{fit_stays, paddings_stay}
use Rattle.rv_cut_laws.proofs.StaysLemmas.{all_fit, rows_stay}
use Rattle.rv_cut_laws.proofs.LineLemmas.{AreSound, AllSound}
use Rattle.rv_cut_laws.proofs.LaidLemmas.{walk_is}
use Rattle.rv_unique_theorems.specs.Asked.{LeavesEven, IsSound}
use Rattle.rv_unique_theorems.proofs.FoundLemmas.{EachOf, all_of}
use Rattle.rv_unique_theorems.proofs.EvensLemmas.{begins_even}
use Rattle.rv_unique_theorems.proofs.WithoutLemmas.{without_sound}

-- ---- sections

-- fields and paddings lie in their section
abbrev IsFit : Section → Type 0
IsFit s = IsTrue (fit_inside s.contents s.relocations)

abbrev HasPaddings : Section → Type 0
HasPaddings s = IsTrue (are_paddings s.executable s.contents s.relocations)

abbrev IsAligned : Section → Type 0
IsAligned s = IsTrue (is_section_alignment s.alignment)

all_cut : (P Q : Section → Type 0) → ((s : Section) (ms : List Move) → AreCuts s ms → P s → Q (cut_section ms s)) → (ss : List Section) (mss : List (List Move)) → AllCut ss mss → AllByRecursion P ss
    → AllByRecursion Q (cut_sections mss ss)
all_cut P Q f [] [] cuts h = tt
all_cut P Q f [] (ms ∷ mss) cuts h = elim cuts [ ]
all_cut P Q f (s ∷ ss) [] cuts h = elim cuts [ ]
all_cut P Q f (s ∷ ss) (ms ∷ mss) cuts (one, h) = (f s ms cuts.0 one, all_cut P Q f ss mss cuts.1 h)

fits : (ss : List Section) → AllByRecursion IsFit ss → all_fit ss ≡ true
fits [] h = refl
fits (s ∷ ss) (one, h) = and_from (fit_inside s.contents s.relocations) (all_fit ss) one (fits ss h)

-- ---- objects

cut_sound : (o : Object) (mss : List (List Move)) → AllCut o.sections mss → IsSound o → IsSound (cut_object mss o)
cut_sound o mss cuts sound = record {
  alignments = all_cut IsAligned IsAligned (λ s ms are h. h) o.sections mss cuts sound.alignments;
  inside = all_cut IsFit IsFit (λ s ms are h. fit_stays s ms h are) o.sections mss cuts sound.inside;
  paddings = all_cut (λ s. IsFit s × HasPaddings s) HasPaddings (λ s ms are h. paddings_stay s ms s.executable h.0 are h.1) o.sections mss cuts
      (each_from_both IsFit HasPaddings (λ s. IsFit s × HasPaddings s) (λ s a b. (a, b)) o.sections sound.inside sound.paddings);
  rows = rows_stay o.sections mss o.rows cuts (fits o.sections sound.inside) sound.rows;
}

walked_sound : (os : List Object) (sites : List Site) (kept : List ℕ) → AreWalked os sites kept → AllByRecursion IsSound os → AllByRecursion IsSound (walked os sites kept)
walked_sound [] sites kept walk h = tt
walked_sound (o ∷ os) sites kept walk (sound, h) = (
  cut_sound o (object_moves o.sections sites kept) walk.0 sound,
  walked_sound os (drop (passed_all o.sections sites) sites) (drop (passed_all o.sections sites) kept) walk.1 h,
)

-- ---- the sites of sound objects

sound_sections : (ss : List Section) → AllByRecursion IsFit ss → AllByRecursion HasPaddings ss → AreSound ss
sound_sections [] h k = tt
sound_sections (s ∷ ss) (fit, h) (padded, k) = (record { fit = fit; paddings = padded }, sound_sections ss h k)

all_sound : (os : List Object) → AllByRecursion IsSound os → AllSound os
all_sound [] h = tt
all_sound (o ∷ os) (sound, h) = (sound_sections o.sections sound.inside sound.paddings, all_sound os h)

text_inputs : (whole : List Object) (file : ℕ) (os : List Object) → 1 ≤ file → ((n : ℕ) → object_at whole (file + n) ≡ slice_index_or os n no_object) → AllByRecursion IsSound os
    → EachOf goes_to_text (IsTextInput whole) file os
text_inputs whole file [] some each h = tt
text_inputs whole file (o ∷ os) some each (sound, h) = (
  λ index s at text. record {
    counted = some;
    at = ap (object_at whole) (let e : file ≡ file + 0 = omega arith in e) ∙ each 0;
    there = at;
    text = text;
    inside = each_get IsFit o.sections index s sound.inside at;
    paddings = each_get HasPaddings o.sections index s sound.paddings at;
  },
  text_inputs whole (suc file) os (omega (arith, some)) (λ n. ap (object_at whole) (let e : suc file + n ≡ file + suc n = omega arith in e) ∙ each (suc n)) h,
)

sites_text : (os : List Object) → AllByRecursion IsSound os → IsText (sites_of os)
sites_text os h =
    text os (all_of goes_to_text (IsTextInput os) 1 os
    (text_inputs os 1 os (omega arith) (λ n. ap (λ k. slice_index_or os k no_object) (let e : 1 + n - 1 ≡ n = omega arith in e)) h))

-- ---- what is left

left_sound : (relax : Bool) (os left : List Object) → Relaxes relax os left → AllByRecursion IsSound os → AllByRecursion IsSound left
left_sound false os left is h = subst (AllByRecursion IsSound) (sym is) h
left_sound true os left is h =
    let walk = walk_is os is.0 (all_sound os h) (sites_text os h) is.1.closed.family.same_length in
    subst (AllByRecursion IsSound) (walk.same ∙ sym is.2) (walked_sound os (sites_of os) is.0 walk.allowed h)

-- ---- with collection

pub leaves_even : (os : List Object) (start : ℕ) (relax gc : Bool) → AllByRecursion IsSound os → LeavesEven os start relax gc
leaves_even os start relax gc h drops left leaves = begins_even left start (left_sound relax (without drops os) left leaves.relaxed (without_sound drops os h))
