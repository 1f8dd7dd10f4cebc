-- One section, and one file, more of the text's pass.

use Rattle.std.proofs.Common.{◌≡◌, ◌<◌, ◌+◌, ℕ, true, false, Option, None, List, [], ◌∷◌, ◌++◌, length, take, drop, get_or, map, sym, ap, subst, ◌∙◌, append-nil}
use Rattle.std.specs.Prelude.{if◌then◌else◌, IfNone}
use Rattle.std.specs.Global.{Vec}
use Rattle.std.specs.List.{AllZip}
use Rattle.std.proofs.lemmas.List.{take_more, map-append}
use Rattle.std.proofs.lemmas.Slice.Zip.{all_zipped_more}
use Rattle.rv_list_laws.proofs.TakeDropLemmas.{drop_read}
use Rattle.rv_list_laws.proofs.ElementsLemmas.{append_grown}
use Rattle.rv_map_laws.specs.declared.map.Region.{Region}
use Rattle.rv_object_laws.specs.Object.{Section, Object, size_of}
use Rattle.rv_link_laws.specs.Moves.{Move, moves, new_offset}
use Rattle.rv_link_laws.specs.Inputs.{goes_to_text}
use Rattle.rv_shorten.specs.declared.section.ShortSection.{ShortSection}
use Rattle.rv_shorten.specs.declared.object.ShortObject.{ShortObject}
use Rattle.rv_shorten.specs.Sections.{short_section_of}
use Rattle.rv_shorten.specs.View.{short_object_of}
use Rattle.rv_placement.specs.declared.placement.PlacedSection.{PlacedSection}
use Rattle.rv_placement.specs.Walk.{start_behind, end_behind, next, ended, ended_files, start_from, text_starts, text_files, gap_between, gap_behind, gapped, gapped_files, lists_of, IsKept, AreKept, IsPut}

pub told_none : {A : Type 0} (P : Type 0) (o : Option A) → o ≡ None → IfNone o P → P
told_none P o e h = subst (λ v. IfNone v P) e h

-- ---- one section

pub shrunk : (start n old size : ℕ) (ms ns : List Move) → n ≡ new_offset ms old → old ≡ size → ms ≡ ns → start + n ≡ start + new_offset ns size
shrunk start n old size ms ns e f g = ap (λ x. start + x) (e ∙ ap (λ m. new_offset m old) g ∙ ap (new_offset ns) f)

pub next_other : (stop : ℕ) (s : Section) → goes_to_text s ≡ false → stop ≡ next goes_to_text stop s
next_other stop s e = sym (ap (λ b. if b then end_behind stop s else stop) e)

pub start_other : (stop : ℕ) (s : Section) → goes_to_text s ≡ false → 0 ≡ start_from goes_to_text stop 0 s
start_other stop s e = sym (ap (λ b. if b then start_behind stop s else 0) e)

pub gap_other : (stop : ℕ) (s : Section) (gaps : List Region) → goes_to_text s ≡ false → gaps ≡ gaps ++ gap_behind stop s
gap_other stop s gaps e = sym (append-nil gaps) ∙ sym (ap (λ b. gaps ++ (if b then gap_between stop (start_behind stop s) else [])) e)

pub next_text : (stop : ℕ) (s : Section) → goes_to_text s ≡ true → end_behind stop s ≡ next goes_to_text stop s
next_text stop s e = sym (ap (λ b. if b then end_behind stop s else stop) e)

pub start_text : (stop : ℕ) (s : Section) → goes_to_text s ≡ true → start_behind stop s ≡ start_from goes_to_text stop 0 s
start_text stop s e = sym (ap (λ b. if b then start_behind stop s else 0) e)

pub gap_text : (stop : ℕ) (s : Section) → goes_to_text s ≡ true → gap_between stop (start_behind stop s) ≡ gap_behind stop s
gap_text stop s e = sym (ap (λ b. if b then gap_between stop (start_behind stop s) else []) e)

pub put_at : (s : Section) (a b : ℕ) (old new : List PlacedSection) → a ≡ b → IsPut s a old new → IsPut s b old new
put_at s a b old new e h = subst (λ x. IsPut s x old new) e h

pub put_text : (stop start end : ℕ) (s : Section) (old new : List PlacedSection) (gaps others : List Region) → goes_to_text s ≡ true → start ≡ start_behind stop s
    → end ≡ start + new_offset (moves start s) (size_of s.contents) → IsPut s start old new → others ≡ gaps ++ gap_between stop start
    → (end ≡ next goes_to_text stop s) × IsPut s (start_from goes_to_text stop 0 s) old new × (others ≡ gaps ++ gap_behind stop s)
put_text stop start end s old new gaps others text is ends put gap = (
  ends ∙ ap (λ n. n + new_offset (moves n s) (size_of s.contents)) is ∙ next_text stop s text,
  put_at s start (start_from goes_to_text stop 0 s) old new (is ∙ start_text stop s text) put,
  gap ∙ ap (λ n. gaps ++ gap_between stop n) is ∙ ap (λ l. gaps ++ l) (gap_text stop s text),
)

-- ---- the steps of loops

starts : List PlacedSection → List ℕ
starts qs = map (λ q. q.start) qs

module _ (stop i : ℕ) (sections : List ShortSection) (x : ShortSection) (inside : i < length sections) (is : x ≡ get_or sections i x) (end : ℕ) (ends : end ≡ next goes_to_text stop (short_section_of x)) where
  abbrev rest : List Section
  rest = map short_section_of (drop (i + 1) sections)

  here : map short_section_of (drop i sections) ≡ short_section_of x ∷ rest
  here = ap (map short_section_of) (drop_read sections i x inside is)

  pub section_ends : (whole : ℕ) → ended goes_to_text stop (map short_section_of (drop i sections)) ≡ whole → ended goes_to_text end rest ≡ whole
  section_ends whole h = ap (λ n. ended goes_to_text n rest) ends ∙ ap (ended goes_to_text stop) (sym here) ∙ h

  pub section_starts : (q : PlacedSection) (old new : List PlacedSection) (all : List ℕ) → new ≡ old ++ (q ∷ []) → q.start ≡ start_from goes_to_text stop 0 (short_section_of x)
      → map (λ q. q.start) old ++ text_starts stop (map short_section_of (drop i sections)) ≡ all → map (λ q. q.start) new ++ text_starts end rest ≡ all
  section_starts q old new all e starts h =
      append_grown (map (λ q. q.start) old) (q.start ∷ []) (text_starts end rest) (map (λ q. q.start) new) all
      (ap (map (λ q. q.start)) e ∙ map-append (λ q. q.start) old (q ∷ []))
      (ap (λ n. map (λ q. q.start) old ++ (q.start ∷ text_starts n rest)) ends ∙ ap (λ n. map (λ q. q.start) old ++ (n ∷ text_starts (next goes_to_text stop (short_section_of x)) rest)) starts
      ∙ ap (λ l. map (λ q. q.start) old ++ text_starts stop l) (sym here) ∙ h)

  pub section_gaps : (old new all : List Region) → new ≡ old ++ gap_behind stop (short_section_of x) → old ++ gapped stop (map short_section_of (drop i sections)) ≡ all → new ++ gapped end rest ≡ all
  section_gaps old new all e h =
      append_grown old (gap_behind stop (short_section_of x)) (gapped end rest) new all e
      (ap (λ n. old ++ (gap_behind stop (short_section_of x) ++ gapped n rest)) ends ∙ ap (λ l. old ++ gapped stop l) (sym here) ∙ h)

  pub section_kept : (q : PlacedSection) (old new : List PlacedSection) → new ≡ old ++ (q ∷ []) → IsKept (short_section_of x) q → AllZip IsKept (map short_section_of (take i sections)) old
      → AllZip IsKept (map short_section_of (take (i + 1) sections)) new
  section_kept q old new e kept h =
      let more = all_zipped_more IsKept (map short_section_of (take i sections)) old (short_section_of x) q h kept in
      let taken : map short_section_of (take (i + 1) sections) ≡ map short_section_of (take i sections) ++ (short_section_of x ∷ []) =
      ap (map short_section_of) (take_more sections i x inside ∙ ap (λ y. take i sections ++ (y ∷ [])) (sym is)) ∙ map-append short_section_of (take i sections) (x ∷ []) in
      subst (λ l. AllZip IsKept l new) (sym taken) (subst (λ l. AllZip IsKept (map short_section_of (take i sections) ++ (short_section_of x ∷ [])) l) (sym e) more)

module _ (stop i : ℕ) (objects : List ShortObject) (o : ShortObject) (inside : i < length objects) (is : o ≡ get_or objects i o) (end : ℕ)
    (ends : end ≡ ended goes_to_text stop (map short_section_of o.sections.items)) where
  abbrev others : List Object
  others = map short_object_of (drop (i + 1) objects)

  there : map short_object_of (drop i objects) ≡ short_object_of o ∷ others
  there = ap (map short_object_of) (drop_read objects i o inside is)

  pub object_ends : (whole : ℕ) → ended_files goes_to_text stop (map short_object_of (drop i objects)) ≡ whole → ended_files goes_to_text end others ≡ whole
  object_ends whole h = ap (λ n. ended_files goes_to_text n others) ends ∙ ap (ended_files goes_to_text stop) (sym there) ∙ h

  pub object_starts : (f : Vec PlacedSection) (old new : List (Vec PlacedSection)) (all : List (List ℕ)) → new ≡ old ++ (f ∷ []) → map (λ q. q.start) f.items ≡ text_starts stop (map short_section_of o.sections.items)
      → map (λ f. map (λ q. q.start) f) (lists_of old) ++ text_files stop (map short_object_of (drop i objects)) ≡ all → map (λ f. map (λ q. q.start) f) (lists_of new) ++ text_files end others ≡ all
  object_starts f old new all e starts h =
      let front = map (λ f. map (λ (q : PlacedSection). q.start) f) (lists_of old) in
      let here = ended goes_to_text stop (map short_section_of o.sections.items) in
      append_grown front (map (λ q. q.start) f.items ∷ []) (text_files end others) (map (λ f. map (λ q. q.start) f) (lists_of new)) all
      (ap (λ l. map (λ f. map (λ q. q.start) f) (lists_of l)) e ∙ ap (map (λ f. map (λ q. q.start) f)) (map-append (λ (v : Vec PlacedSection). v.items) old (f ∷ []))
      ∙ map-append (λ (f : List PlacedSection). map (λ q. q.start) f) (lists_of old) (f.items ∷ []))
      (ap (λ n. front ++ (map (λ q. q.start) f.items ∷ text_files n others)) ends ∙ ap (λ l. front ++ (l ∷ text_files here others)) starts
      ∙ ap (λ l. front ++ text_files stop l) (sym there) ∙ h)

  pub object_gaps : (old new all : List Region) → new ≡ old ++ gapped stop (map short_section_of o.sections.items) → old ++ gapped_files stop (map short_object_of (drop i objects)) ≡ all → new ++ gapped_files end others ≡ all
  object_gaps old new all e h =
      let here = gapped stop (map short_section_of o.sections.items) in
      append_grown old here (gapped_files end others) new all e
      (ap (λ n. old ++ (here ++ gapped_files n others)) ends ∙ ap (λ l. old ++ gapped_files stop l) (sym there) ∙ h)

  pub object_kept : (f : Vec PlacedSection) (old new : List (Vec PlacedSection)) → new ≡ old ++ (f ∷ []) → AreKept (short_object_of o) f.items → AllZip AreKept (map short_object_of (take i objects)) (lists_of old)
      → AllZip AreKept (map short_object_of (take (i + 1) objects)) (lists_of new)
  object_kept f old new e kept h =
      let more = all_zipped_more AreKept (map short_object_of (take i objects)) (lists_of old) (short_object_of o) f.items h kept in
      let taken : map short_object_of (take (i + 1) objects) ≡ map short_object_of (take i objects) ++ (short_object_of o ∷ []) =
      ap (map short_object_of) (take_more objects i o inside ∙ ap (λ y. take i objects ++ (y ∷ [])) (sym is)) ∙ map-append short_object_of (take i objects) (o ∷ []) in
      let listed : lists_of new ≡ lists_of old ++ (f.items ∷ []) = ap lists_of e ∙ map-append (λ (v : Vec PlacedSection). v.items) old (f ∷ []) in
      subst (λ l. AllZip AreKept l (lists_of new)) (sym taken) (subst (λ l. AllZip AreKept (map short_object_of (take i objects) ++ (short_object_of o ∷ [])) l) (sym listed) more)
