-- What is made of placed objects is their linked program.

use Rattle.std.proofs.Common.{◌≤◌, ◌≡◌, ℕ, zero, suc, ◌+◌, ◌-◌, ◌%◌, ◌<◌, Bool, true, false, if◌then◌else◌, List, [], ◌∷◌, length, map, refl, sym, ap, ◌∙◌, subst, arith, Some}
use Rattle.std.proofs.lemmas.List.{append-nil}
use Rattle.std.specs.Prelude.{IsTrue}
use Rattle.std.specs.Global.{Vec}
use Rattle.std.specs.List.{AllByRecursion, list_all, slice_get}
use Rattle.std.proofs.lemmas.Option.{slice_get_within}
use Rattle.rv_list_laws.proofs.EachLemmas.{each_append, each_from_both}
use Rattle.rv_list_laws.proofs.TestsLemmas.{all_get}
use Rattle.rv_list_laws.proofs.ElementsLemmas.{get_some}
use Rattle.rv_map_laws.specs.declared.map.SectionId.{SectionId}
use Rattle.rv_map_laws.specs.Limits.{IsMap}
use Rattle.rv_object_laws.specs.Object.{Section, Object}
use Rattle.rv_link_laws.specs.declared.bounds.Ground.{Ground}
use Rattle.rv_link_laws.specs.Moves.{moves, has_room}
use Rattle.rv_link_laws.specs.Inputs.{InputSection, goes_to_text, inputs_from, inputs_of, inputs, start_of}
use Rattle.rv_link_laws.specs.Names.{entry_of}
use Rattle.rv_link_laws.specs.IsLinkOf.{most_files, IsLinkOf, is_loaded}
use Rattle.rv_link_laws.specs.Layout.{section_in, object_section, shown_globals, regions_of}
use Rattle.rv_link_laws.specs.Untaken.{IsTaken, AreTaken}
use Rattle.rv_relax.specs.Kept.{moves_of}
use Rattle.rv_placement.specs.declared.placement.PlacedSection.{PlacedSection}
use Rattle.rv_placement.specs.declared.placement.Placement.{Placement}
use Rattle.rv_placement.specs.Placement.{starts_of, start_in, placed_in, placed_at, are_roomy_in, are_roomy, IsPlacement, layout_of}
use Rattle.rv_link.specs.declared.regions.Regions.{Regions}
use Rattle.rv_link.specs.Regions.{AreGrown, HasLinkNames}
use Rattle.rv_link.specs.Made.{made}

-- ---- every input section

module _ (os : List Object) (goes : Section → Bool) (P : InputSection → Type 0)
    (each : (file : ℕ) (o : Object) (index : ℕ) (s : Section) → slice_get os file ≡ Some o → slice_get o.sections index ≡ Some s
    → P (record { file = suc file; object = o; index = index; section = s })) where
  in_file : (file : ℕ) (o : Object) → slice_get os file ≡ Some o → (index : ℕ) (ss : List Section)
      → ((k : ℕ) (s : Section) → slice_get ss k ≡ Some s → slice_get o.sections (index + k) ≡ Some s) → AllByRecursion P (inputs_from goes (suc file) o index ss)
  in_file file o at index [] there = tt
  in_file file o at index (s ∷ ss) there =
      go (goes s) (in_file file o at (suc index) ss (λ k q e. let same : suc index + k ≡ index + suc k = omega arith in ap (λ n. slice_get o.sections n) same ∙ there (suc k) q e)) where
        here : slice_get o.sections index ≡ Some s
        here = let same : index ≡ index + 0 = omega arith in ap (λ n. slice_get o.sections n) same ∙ there 0 s refl

        go : (b : Bool) → AllByRecursion P (inputs_from goes (suc file) o (suc index) ss)
            → AllByRecursion P (if b then record { file = suc file; object = o; index = index; section = s } ∷ inputs_from goes (suc file) o (suc index) ss else inputs_from goes (suc file) o (suc index) ss)
        go true more = (each file o index s at here, more)
        go false more = more

  in_files : (file : ℕ) (xs : List Object) → ((k : ℕ) (o : Object) → slice_get xs k ≡ Some o → slice_get os (file + k) ≡ Some o) → AllByRecursion P (inputs_of goes (suc file) xs)
  in_files file [] there = tt
  in_files file (o ∷ xs) there =
      let same : file ≡ file + 0 = omega arith in
      each_append P (inputs_from goes (suc file) o 0 o.sections) (inputs_of goes (suc (suc file)) xs)
      (in_file file o (ap (λ n. slice_get os n) same ∙ there 0 o refl) 0 o.sections (λ k s e. let plain : 0 + k ≡ k = omega arith in ap (λ n. slice_get o.sections n) plain ∙ e))
      (in_files (suc file) xs (λ k q e. let next : suc file + k ≡ file + suc k = omega arith in ap (λ n. slice_get os n) next ∙ there (suc k) q e))

  pub all_inputs : AllByRecursion P (inputs goes os)
  all_inputs = in_files 0 os (λ k o e. let plain : 0 + k ≡ k = omega arith in ap (λ n. slice_get os n) plain ∙ e)

-- ---- room

places_at : (fs : List (Vec PlacedSection)) (os : List Object) → map (λ f. length f.items) fs ≡ map (λ o. length o.sections) os
    → (file : ℕ) (o : Object) → slice_get os file ≡ Some o → (f : Vec PlacedSection) × (slice_get fs file ≡ Some f) × (length f.items ≡ length o.sections)
places_at [] [] e file o at = absurd (cc)
places_at [] (x ∷ os) e file o at = absurd (cc)
places_at (f ∷ fs) [] e file o at = absurd (cc)
places_at (f ∷ fs) (x ∷ os) e zero o at =
    let same : x ≡ o = cc in
    let long : length f.items ≡ length x.sections = cc in
    (f, refl, long ∙ ap (λ z. length z.sections) same)
places_at (f ∷ fs) (x ∷ os) e (suc file) o at = places_at fs os (let rest : map (λ f. length f.items) fs ≡ map (λ o. length o.sections) os = cc in rest) file o at

has_its_room : (os : List Object) (bounds : Ground) (p : Placement) → IsPlacement os bounds p → are_roomy p ≡ true → (file : ℕ) (o : Object) (index : ℕ) (s : Section)
    → slice_get os file ≡ Some o → slice_get o.sections index ≡ Some s → IsTrue (list_all has_room (moves (starts_of p (suc file) index) s))
has_its_room os bounds p placed roomy file o index s at there =
    let (qs, qs_there, long) = places_at p.files.items os placed.each file o at in
    let inside : index < length qs.items = omega (arith, long, slice_get_within o.sections index s there) in
    let (q, q_there) = get_some qs.items index inside in
    let stands : object_section os file index ≡ Some s = ap (λ z. section_in z index) at ∙ there in
    let found : placed_at p file index ≡ Some q = ap (λ z. placed_in z index) qs_there ∙ q_there in
    let back : suc file - 1 ≡ file = omega arith in
    let starts : starts_of p (suc file) index ≡ q.start = ap (λ n. start_in (placed_at p n index)) back ∙ ap start_in found in
    let planned : moves_of q.plan.now ≡ moves q.start s = placed.planned file index s q stands found in
    let row : are_roomy_in qs.items ≡ true = all_get (λ g. are_roomy_in g.items) p.files.items file qs roomy qs_there in
    let own : list_all has_room (moves_of q.plan.now) ≡ true = all_get (λ z. list_all has_room (moves_of z.plan.now)) qs.items index q row q_there in
    subst (λ m. IsTrue (list_all has_room m)) (planned ∙ ap (λ n. moves n s) (sym starts)) own

-- ---- the whole

pub is_link : (drops : List SectionId) (os : List Object) (bounds : Ground) (p : Placement) (entry : ℕ) (r : Regions) → length os ≤ most_files → bounds.text % 4096 ≡ 0 → bounds.text < bounds.ceiling → HasLinkNames os → IsPlacement os bounds p → are_roomy p ≡ true
    → entry_of (starts_of p) os ≡ Some entry → entry % 2 ≡ 0 → AreGrown os p (λ goes. []) r → IsMap (made drops os p entry r).map → IsLinkOf os bounds (made drops os p entry r)
is_link drops os bounds p entry r few page low named placed roomy begins even grown readable =
    let resolved = named.resolved (starts_of p) (record (regions_of (layout_of p)) { globals = shown_globals os (layout_of p) }) refl in
    record {
      few = few;
      page = page;
      low = low;
      free = placed.free;
      starts = starts_of p;
      text = placed.laid.text;
      gaps = placed.laid.gaps;
      rodata = placed.laid.rodata;
      «data» = placed.laid.data;
      bss = placed.laid.bss;
      below = placed.laid.below;
      memory = placed.laid.memory;
      room = all_inputs os goes_to_text (λ i. IsTrue (list_all has_room (moves (start_of (starts_of p) i) i.section))) (has_its_room os bounds p placed roomy);
      once = named.once;
      globals = refl;
      entry = begins;
      even = even;
      rows = refl;
      readable = readable;
      relocated =
          each_from_both (λ i. AreTaken os (layout_of p) i) _ _ (λ i taken. each_from_both (IsTaken os (layout_of p) i) _ _ (λ q has known. record { resolved = known; found = has.found; alone = has.alone; takes = has.takes }) i.section.relocations taken)
          (inputs is_loaded os) (grown.taken tt) resolved;
      text_bytes = sym (append-nil r.text.items) ∙ grown.text.holds;
      rodata_bytes = sym (append-nil r.rodata.items) ∙ grown.rodata.holds;
      data_bytes = sym (append-nil r.data.items) ∙ grown.data.holds;
      rvc = refl;
    }
