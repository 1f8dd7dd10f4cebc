-- Regions grow section by section.

use Rattle.std.proofs.Common.{◌≡◌, ℕ, zero, suc, ◌+◌, ◌-◌, ◌<◌, ◌≤◌, Bool, true, false, if◌then◌else◌, List, [], ◌∷◌, ◌++◌, length, take, drop, min, refl, sym, ap, ◌∙◌, subst, arith, add-one, add-zero, append_assoc}
use Rattle.std.proofs.lemmas.List.{length-append, length-take, length-drop, length-replicate}
use Rattle.std.specs.Prelude.{ℤ, IsTrue, Option, Some, None}
use Rattle.std.specs.List.{AllByRecursion, list_all, slice_get}
use Rattle.rv_list_laws.proofs.TakeDropLemmas.{drop_suc}
use Rattle.rv_map_laws.specs.declared.map.Region.{Region}
use Rattle.rv_object_laws.specs.Object.{Relocation, Section, Object}
use Rattle.rv_link_laws.specs.Moves.{Move, moves, new_offset, kept, has_room}
use Rattle.rv_link_laws.specs.Inputs.{Starts, InputSection, inputs_from, inputs_of, begins_at, start_of, size, Stand, sections_end, Holds, contents}
use Rattle.rv_link_laws.specs.Names.{object_at}
use Rattle.rv_link_laws.specs.Values.{patched_at, applied, initial_bytes}
use Rattle.rv_link_laws.specs.Layout.{section_in, object_section}
use Rattle.rv_link_laws.specs.Untaken.{worth}
use Rattle.rv_shorten.specs.Sections.{short_section_of}
use Rattle.rv_relax.specs.Kept.{moves_of}
use Rattle.rv_placement.specs.declared.placement.Placement.{Placement}
use Rattle.rv_placement.specs.Placement.{starts_of, layout_of}
use Rattle.rv_isa.specs.declared.kind.Kind.{Kind}
use Rattle.rv_isa.specs.Kinds.{width_of}
use Rattle.rv_isa_laws.specs.Bytes.{zeros}
use Rattle.rv_isa_laws.proofs.BytesLemmas.{little_long}
use Rattle.rv_reloc_laws.specs.Fields.{patched}
use Rattle.rv_link_laws.proofs.ListsLemmas.{found_at, above}
use Rattle.rv_placement.proofs.AlignmentsLemmas.{begins_some}
use Rattle.rv_link.specs.declared.fixed.PlacedInput.{PlacedInput}
use Rattle.rv_link_values.specs.Values.{IsInputAt}
use Rattle.rv_link.proofs.StepsLemmas.{all_inside, kept_long}
use Rattle.rv_link.specs.Filled.{IsPlacedInput, IsInside, input_at, linked_in}
use Rattle.rv_link.specs.Regions.{left_from, IsGrown}

-- ---- starts

-- a section starts where those before it end, or later
pub later : (starts : Starts) (stop : ℕ) (i : InputSection) (left : List InputSection) → Stand starts stop (i ∷ left) → stop ≤ start_of starts i
later starts stop i left (here, rest) = subst (λ n. stop ≤ n) (sym here) (above (begins_at i.section) stop (begins_some i.section))

-- ---- regions

pub grown_first : (bytes : InputSection → List ℕ) (starts : Starts) (region : Region) (place : ℕ) (whole : List InputSection) → Holds starts region place whole
    → IsGrown bytes starts region whole whole []
grown_first bytes starts region place whole (begins, stand, ends) =
    let at : region.start + 0 ≡ region.start = add-zero region.start in
    let place' : region.start + 0 ≡ place = at ∙ begins in
    record {
      stand = subst (λ n. Stand starts n whole) (sym place') stand;
      ends = ap (λ n. sections_end starts n whole) place' ∙ sym ends;
      holds = ap (λ n. contents bytes starts n whole) at;
    }

pub grown_next : (bytes : InputSection → List ℕ) (starts : Starts) (region : Region) (whole : List InputSection) (from : List InputSection) (i : InputSection) (left : List InputSection) (out new : List ℕ)
    → IsGrown bytes starts region whole from out → from ≡ i ∷ left → length (bytes i) ≡ size starts i
    → new ≡ out ++ (zeros (start_of starts i - (region.start + length out)) ++ bytes i) → IsGrown bytes starts region whole left new
grown_next bytes starts region whole from i left out new is front long made =
    let stop : ℕ = region.start + length out in
    let start : ℕ = start_of starts i in
    let gap : ℕ = start - stop in
    let stand : Stand starts stop (i ∷ left) = subst (λ l. Stand starts stop l) front is.stand in
    let not_before : stop ≤ start = later starts stop i left stand in
    let added : length new ≡ length out + (gap + length (bytes i)) =
    ap length made ∙ length-append out (zeros gap ++ bytes i) ∙ ap (λ n. length out + n) (length-append (zeros gap) (bytes i) ∙ ap (λ n. n + length (bytes i)) (length-replicate {A = ℕ} gap 0)) in
    let ends : region.start + length new ≡ start + size starts i = omega (arith, added, long) in
    record {
      stand = subst (λ n. Stand starts n left) (sym ends) stand.1;
      ends = ap (λ n. sections_end starts n left) ends ∙ ap (λ l. sections_end starts stop l) (sym front) ∙ is.ends;
      holds =
          ap (λ n. new ++ contents bytes starts n left) ends ∙ ap (λ l. l ++ contents bytes starts (start + size starts i) left) made
          ∙ append_assoc out (zeros gap ++ bytes i) (contents bytes starts (start + size starts i) left)
          ∙ ap (λ l. out ++ l) (append_assoc (zeros gap) (bytes i) (contents bytes starts (start + size starts i) left))
          ∙ ap (λ l. out ++ contents bytes starts stop l) (sym front) ∙ is.holds;
    }

pub grown_same : (bytes : InputSection → List ℕ) (starts : Starts) (region : Region) (whole from left : List InputSection) (out : List ℕ) → from ≡ left
    → IsGrown bytes starts region whole from out → IsGrown bytes starts region whole left out
grown_same bytes starts region whole from left out same is = subst (λ l. IsGrown bytes starts region whole l out) same is

-- ---- what is left

taken : (goes : Section → Bool) (i : InputSection) (s : Section) (rest more : List InputSection) → goes s ≡ true → (if goes s then i ∷ rest else rest) ++ more ≡ i ∷ (rest ++ more)
taken goes i s rest more e = ap (λ b. (if b then i ∷ rest else rest) ++ more) e

passed : (goes : Section → Bool) (i : InputSection) (s : Section) (rest more : List InputSection) → goes s ≡ false → (if goes s then i ∷ rest else rest) ++ more ≡ rest ++ more
passed goes i s rest more e = ap (λ b. (if b then i ∷ rest else rest) ++ more) e

pub found_object : (os : List Object) (file index : ℕ) (s : Section) → object_section os file index ≡ Some s → slice_get os file ≡ Some (object_at os (file + 1))
found_object os file index s e = go (slice_get os file) refl e where
  go : (x : Option Object) → slice_get os file ≡ x → section_in x index ≡ Some s → slice_get os file ≡ Some (object_at os (file + 1))
  go None f e = absurd (cc)
  go (Some o) f e = f ∙ ap Some (sym (found_at os file o f))

-- as `rv_link_values` asks for it
pub found_section : (os : List Object) (file index : ℕ) (s : Section) → object_section os file index ≡ Some s → IsInputAt os file index (input_at os file index s)
found_section os file index s e = record {
  numbered = refl;
  at = found_object os file index s e;
  indexed = refl;
  there = ap (λ x. section_in x index) (sym (found_object os file index s e)) ∙ e;
}

pub front_of : (os : List Object) (file index : ℕ) (s : Section) → object_section os file index ≡ Some s
    → drop index (object_at os (file + 1)).sections ≡ s ∷ drop (index + 1) (object_at os (file + 1)).sections
front_of os file index s e =
    drop_suc (object_at os (file + 1)).sections index s (ap (λ x. section_in x index) (sym (found_object os file index s e)) ∙ e)
    ∙ ap (λ n. s ∷ drop n (object_at os (file + 1)).sections) (sym (add-one index))

module _ (os : List Object) (file index : ℕ) (s : Section) (goes : Section → Bool) (stands : object_section os file index ≡ Some s) where
  rest : ℕ → List Section → List InputSection
  rest n ss = inputs_from goes (file + 1) (object_at os (file + 1)) n ss

  more : List InputSection
  more = inputs_of goes (suc (file + 1)) (drop (file + 1) os)

  opened : left_from os file index goes ≡ (if goes s then input_at os file index s ∷ rest (index + 1) (drop (index + 1) (object_at os (file + 1)).sections) else rest (index + 1) (drop (index + 1) (object_at os (file + 1)).sections)) ++ more
  unfolding rest more
  opened = ap (λ ss. inputs_from goes (file + 1) (object_at os (file + 1)) index ss ++ inputs_of goes (suc (file + 1)) (drop (file + 1) os)) (front_of os file index s stands)
      ∙ ap (λ n. (if goes s then input_at os file index s ∷ inputs_from goes (file + 1) (object_at os (file + 1)) n (drop (index + 1) (object_at os (file + 1)).sections) else inputs_from goes (file + 1) (object_at os (file + 1)) n (drop (index + 1) (object_at os (file + 1)).sections)) ++ inputs_of goes (suc (file + 1)) (drop (file + 1) os)) (sym (add-one index))

  pub left_takes : goes s ≡ true → left_from os file index goes ≡ input_at os file index s ∷ left_from os file (index + 1) goes
  unfolding rest more
  left_takes e = opened ∙ taken goes (input_at os file index s) s _ _ e

  pub left_skips : goes s ≡ false → left_from os file index goes ≡ left_from os file (index + 1) goes
  unfolding rest more
  left_skips e = opened ∙ passed goes (input_at os file index s) s _ _ e

-- ---- the bytes of a section

whole_length : (offset total width front field rest : ℕ) → front ≡ min offset total → field ≡ width → rest ≡ total - offset - width
    → (0 < width → offset + width ≤ total) → front + (field + rest) ≡ total
whole_length offset total zero front field rest e f g inside = omega arith
whole_length offset total (suc width) front field rest e f g inside = let h : offset + suc width ≤ total = inside (omega arith) in omega arith

patched_length : (offset : ℕ) (k : Kind) (v : ℤ) (bytes : List ℕ) → (0 < width_of k → offset + width_of k ≤ length bytes) → length (patched_at offset k v bytes) ≡ length bytes
patched_length offset k v bytes inside =
    let field : List ℕ = patched k v (take (width_of k) (drop offset bytes)) in
    let rest : List ℕ = drop (width_of k) (drop offset bytes) in
    length-append (take offset bytes) (field ++ rest) ∙ ap (λ n. length (take offset bytes) + n) (length-append field rest)
    ∙ whole_length offset (length bytes) (width_of k) (length (take offset bytes)) (length field) (length rest) (length-take offset bytes) (little_long (width_of k) _)
    (length-drop (width_of k) (drop offset bytes) ∙ ap (λ n. n - width_of k) (length-drop offset bytes)) inside

applied_length : (ms : List Move) (w : Relocation → ℤ) (rs : List Relocation) (bytes : List ℕ) → AllByRecursion (IsInside ms (length bytes)) rs
    → length (applied (new_offset ms) w rs bytes) ≡ length bytes
applied_length ms w [] bytes h = refl
applied_length ms w (r ∷ rs) bytes (one, h) =
    let same : length (patched_at (new_offset ms r.place) r.kind (w r) bytes) ≡ length bytes = patched_length (new_offset ms r.place) r.kind (w r) bytes one in
    applied_length ms w rs (patched_at (new_offset ms r.place) r.kind (w r) bytes) (subst (λ n. AllByRecursion (IsInside ms n) rs) (sym same) h) ∙ same

-- a section has as many bytes in the program as are left of it
pub linked_long : (os : List Object) (p : Placement) (x : PlacedInput) → IsPlacedInput os p x
    → length (linked_in os p (input_at os x.file.0 x.index.0 (short_section_of x.section.now))) ≡ size (starts_of p) (input_at os x.file.0 x.index.0 (short_section_of x.section.now))
linked_long os p x is =
    let s : Section = short_section_of x.section.now in
    let i : InputSection = input_at os x.file.0 x.index.0 s in
    let base : ℕ = starts_of p (x.file.0 + 1) x.index.0 in
    let ms : List Move = moves base s in
    let same : moves_of x.placed.now.plan.now ≡ ms = is.planned ∙ ap (λ n. moves n s) (sym is.start) in
    let room : IsTrue (list_all has_room ms) = subst (λ m. IsTrue (list_all has_room m)) same is.room in
    let inside : AllByRecursion (IsInside ms (length (kept 0 ms (initial_bytes s.contents)))) s.relocations = all_inside s base ms (kept 0 ms (initial_bytes s.contents)) refl room x.section.now.paddings x.section.now.inside refl in
    applied_length ms (worth os (layout_of p) i) s.relocations (kept 0 ms (initial_bytes s.contents)) inside ∙ kept_long s base ms refl room x.section.now.paddings
