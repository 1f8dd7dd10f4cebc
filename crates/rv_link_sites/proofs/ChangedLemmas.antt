-- What one relocation changes.

use Rattle.std.proofs.Common.{◌≡◌, ℕ, ◌+◌, ◌-◌, ◌<◌, ◌≤◌, ◌^◌, ◌⊎◌, inl, inr, Bool, true, false, not, ◌&&◌, ◌||◌, List, [], ◌∷◌, ◌++◌, Option, Some, None, length, map, take, drop, All, count_by, ℤ, pos, ◌+ℤ◌, refl, sym, ap, ◌∙◌, append_assoc, append-nil, arith}
use Rattle.std.specs.Prelude.{◌==◌, if◌then◌else◌, filter}
use Rattle.std.specs.Int.{w64, int_wrap}
use Rattle.std.specs.List.{list_all, AllByRecursion}
use Rattle.std.specs.List.Sorted.{IsPermutation}
use Rattle.std.proofs.lemmas.Bool.{leb-true, eqb-true, and_parts}
use Rattle.std.proofs.lemmas.List.{take_more, take_all, map-append, take-append-drop, length-drop}
use Rattle.std.proofs.lemmas.List.Elements.{filter-append, All-from_recursion, All-get_or}
use Rattle.std.proofs.lemmas.List.Sorted.{list_any-IsPermutation, sum_by-IsPermutation, All-permutation}
use Rattle.rv_size_laws.specs.Sites.{padding_site}
use Rattle.rv_isa.specs.Kinds.{width_of}
use Rattle.rv_size_laws.specs.declared.site.Site.{Site}
use Rattle.rv_size_laws.specs.declared.site.Call.{Call}
use Rattle.rv_object_types.specs.declared.relocation.Relocation.{Relocation as Declared}
use Rattle.rv_object_types.specs.declared.section.Section.{Section as DeclaredSection}
use Rattle.rv_object_laws.specs.Object as objects
use Rattle.rv_object_laws.specs.Object.{Relocation, Section, Object, Contents, stored, size_of}
use Rattle.rv_object_types.specs.Parts.{relocation_of, zeros_relocation}
use Rattle.rv_object_types.specs.Sections.{section_of}
use Rattle.rv_object_laws.specs.Valid.{is_align, padding_of, is_padding, is_padding_of, fits_inside, are_all_apart}
use Rattle.rv_link_laws.specs.Moves.{has_padding, full_padding, alignment_of}
use Rattle.rv_link_laws.specs.Inputs.{InputSection, goes_to_text}
use Rattle.rv_link_laws.specs.CallSites.{is_call, has_relax, are_call_words, is_text_place, target_place, text_offset, excess, constant, is_entered, meets, is_permitted, may_change, call_site, site_of, is_compressible}
use Rattle.rv_link_laws.proofs.ChangesLemmas.{call_width, one_if}
use Rattle.rv_cut_laws.proofs.ApartLemmas.{padding_lies}
use Rattle.rv_link_sites.specs.Between.{is_allowed}
use Rattle.rv_link_sites.specs.declared.text.Target.{Target}
use Rattle.rv_link_sites.specs.Text.{IsLying, can_shorten, call_of, text_target}
use Rattle.rv_link_sites.proofs.LoopsLemmas.{at, relocations_left}

-- ---- what allows it

permits : (a b c d e f : Bool) → (a && b && f) ≡ true → (a && b && c && d && not e && f) ≡ (c && d && not e)
permits true true true true true true h = refl
permits true true true true false true h = refl
permits true true true false e true h = refl
permits true true false d e true h = refl
permits true true c d e false h = absurd (cc)
permits true false c d e f h = absurd (cc)
permits false b c d e f h = absurd (cc)

forbids : (a b c d e f : Bool) → (a && b && f) ≡ false → (a && b && c && d && not e && f) ≡ false
forbids true true true true true f h = refl
forbids true true true true false f h = h
forbids true true true false e f h = refl
forbids true true false d e f h = refl
forbids true false c d e f h = refl
forbids false b c d e f h = refl

allowed_same : (all zs : List Relocation) (r : Relocation) → IsPermutation all zs → is_allowed all r ≡ is_allowed zs r
allowed_same all zs r h =
    ap (λ b. is_call r.kind && b && (count_by (meets r.place) all == 1)) (list_any-IsPermutation _ all zs h)
    ∙ ap (λ n. is_call r.kind && has_relax r.place zs && (n == 1)) (sym (sum_by-IsPermutation (λ x. one_if (meets r.place x)) all zs h))

module _ (os : List Object) (i : InputSection) (r : Relocation) where
  may_be : has_padding r ≡ false → may_change os i r ≡ is_permitted os i r
  may_be e = ap (λ b. b || is_permitted os i r) e

  pub may_not : (zs : List Relocation) → has_padding r ≡ false → IsPermutation i.section.relocations zs → is_allowed zs r ≡ false → may_change os i r ≡ false
  may_not zs other same not' =
      may_be other
      ∙ forbids (is_call r.kind) (has_relax r.place i.section.relocations) (are_call_words (stored i.section.contents) r.place) (is_text_place os (target_place os i r))
      (is_entered i.object i.index r.place) (count_by (meets r.place) i.section.relocations == 1) (allowed_same i.section.relocations zs r same ∙ not')

  pub may_if : (zs : List Relocation) → has_padding r ≡ false → IsPermutation i.section.relocations zs → is_allowed zs r ≡ true → may_change os i r ≡ can_shorten os i r
  may_if zs other same allowed =
      may_be other
      ∙ permits (is_call r.kind) (has_relax r.place i.section.relocations) (are_call_words (stored i.section.contents) r.place) (is_text_place os (target_place os i r))
      (is_entered i.object i.index r.place) (count_by (meets r.place) i.section.relocations == 1) (allowed_same i.section.relocations zs r same ∙ allowed)

  module _ (first : ℕ) where
    abbrev pub added : List Site
    added = if may_change os i r then site_of os i first r ∷ [] else []

    pub padding_added : (old new : List Site) → has_padding r ≡ true → new ≡ old ++ padding_site (first + r.place) (full_padding r) (alignment_of r) ∷ [] → new ≡ old ++ added
    padding_added old new padding h =
        h
        ∙ ap (λ s. old ++ s ∷ []) (sym (ap (λ b. if b then padding_site (first + r.place) (full_padding r) (alignment_of r) else call_site os i (first + r.place) r) padding))
        ∙ sym (ap (λ b. old ++ (if b || is_permitted os i r then site_of os i first r ∷ [] else [])) padding)

    pub none_added : (old : List Site) → may_change os i r ≡ false → old ≡ old ++ added
    none_added old not' = sym (append-nil old) ∙ sym (ap (λ b. old ++ (if b then site_of os i first r ∷ [] else [])) not')

    pub call_added : (old new : List Site) → has_padding r ≡ false → may_change os i r ≡ can_shorten os i r
        → new ≡ old ++ (if can_shorten os i r then call_site os i (first + r.place) r ∷ [] else []) → new ≡ old ++ added
    call_added old new other may h =
        h
        ∙ ap (λ s. old ++ (if can_shorten os i r then s ∷ [] else [])) (sym (ap (λ b. if b then padding_site (first + r.place) (full_padding r) (alignment_of r) else call_site os i (first + r.place) r) other))
        ∙ sym (ap (λ b. old ++ (if b then site_of os i first r ∷ [] else [])) may)

-- ---- a call by itself

module _ (os : List Object) (i : InputSection) (r : Relocation) where
  abbrev pub told : Option Call
  told = if can_shorten os i r then Some (call_of os i r) else None

  by_target : (b c e : Bool) (n : Target) (t : Option Target) → t ≡ (if b then Some n else None) → t ≡ None → (c && b && not e) ≡ false
  by_target true c e n t is none = absurd (let clash : Some n ≡ None = sym is ∙ none in cc)
  by_target false true e n t is none = refl
  by_target false false e n t is none = refl

  -- its target, if it has one
  abbrev aim : Target
  aim = record { offset = text_offset os (target_place os i r); past_end = excess os (target_place os i r) }

  pub no_target : (t : Option Target) → t ≡ text_target os (target_place os i r) → t ≡ None → None ≡ told
  no_target t is none =
      sym (ap (λ b. if b then Some (call_of os i r) else None)
      (by_target (is_text_place os (target_place os i r)) (are_call_words (stored i.section.contents) r.place) (is_entered i.object i.index r.place) aim t is none))

  entered_no : (a b e : Bool) → e ≡ true → (a && b && not e) ≡ false
  entered_no true true true h = refl
  entered_no true false true h = refl
  entered_no false b true h = refl
  entered_no a b false h = absurd (cc)

  pub no_place : is_entered i.object i.index r.place ≡ true → None ≡ told
  no_place e =
      sym (ap (λ b. if b then Some (call_of os i r) else None) (entered_no (are_call_words (stored i.section.contents) r.place) (is_text_place os (target_place os i r)) (is_entered i.object i.index r.place) e))

  of_target : (b : Bool) (n m : Target) → Some n ≡ (if b then Some m else None) → (b ≡ true) × (n ≡ m)
  of_target true n m h = (refl, (let same : n ≡ m = cc in same))
  of_target false n m h = absurd (cc)

  three : (a b c : Bool) → a ≡ true → b ≡ true → c ≡ false → (a && b && not c) ≡ true
  three true true false h g e = refl
  three true true true h g e = absurd (cc)
  three true false c h g e = absurd (cc)
  three false b c h g e = absurd (cc)

  pub one_call : (n : Target) (addend : ℤ) (short : Bool) → are_call_words (stored i.section.contents) r.place ≡ true → Some n ≡ text_target os (target_place os i r)
      → is_entered i.object i.index r.place ≡ false → addend ≡ int_wrap w64 (r.addend +ℤ pos n.past_end) → short ≡ is_compressible i r
      → Some (record { target = n.offset; addend = addend; compressed = short }) ≡ told
  one_call n addend short words target entered sum is =
      let found = of_target (is_text_place os (target_place os i r)) n aim target in
      ap (λ m. Some (record { target = m; addend = addend; compressed = short })) (ap (λ (t : Target). t.offset) found.1)
      ∙ ap (λ a. Some (record { target = text_offset os (target_place os i r); addend = a; compressed = short })) (sum ∙ ap (λ (t : Target). int_wrap w64 (r.addend +ℤ pos t.past_end)) found.1)
      ∙ ap (λ b. Some (record { target = text_offset os (target_place os i r); addend = constant os i r; compressed = b })) is
      ∙ sym (ap (λ b. if b then Some (call_of os i r) else None) (three (are_call_words (stored i.section.contents) r.place) (is_text_place os (target_place os i r)) (is_entered i.object i.index r.place) words found.0 entered))

-- ---- it lies in its section

call_lies : (c : Contents) (r : Relocation) → width_of r.kind ≡ 8 → fits_inside c r ≡ true → (r.place + 8 ≤ length (stored c)) × (r.place + 8 ≤ size_of c)
call_lies (objects.Progbits bytes) r width h = let le = leb-true (r.place + width_of r.kind) (length bytes) h in (omega (arith, width, le), omega (arith, width, le))
call_lies (objects.Note bytes) r width h = let le = leb-true (r.place + width_of r.kind) (length bytes) h in (omega (arith, width, le), omega (arith, width, le))
call_lies (objects.Nobits size) r width h = absurd (let e = eqb-true (width_of r.kind) 0 h in omega (arith, e, width))

pub lies : (s : Section) (r : Relocation) → is_padding true s.contents r ≡ true → fits_inside s.contents r ≡ true → IsLying s r
lies s r padding inside = record {
  padding = λ h.
      let align = (and_parts (is_align r.kind) _ h).0 in
      padding_lies s.contents r.place (padding_of r.addend) (sym (ap (λ b. not b || is_padding_of true s.contents r.place (padding_of r.addend)) align) ∙ padding);
  call = λ h. call_lies s.contents r (call_width r.kind h).1 inside;
}

-- a field ends in it, or there is none
pub ends : (c : Contents) (r : Relocation) → fits_inside c r ≡ true → (r.place + width_of r.kind ≤ size_of c) ⊎ (width_of r.kind ≡ 0)
ends (objects.Progbits bytes) r h = inl (leb-true (r.place + width_of r.kind) (length bytes) h)
ends (objects.Note bytes) r h = inl (leb-true (r.place + width_of r.kind) (length bytes) h)
ends (objects.Nobits size) r h = inr (eqb-true (width_of r.kind) 0 h)

-- what holds of each relocation
pub record IsFine (s : Section) (x : Declared) : Type 0 where
  pub lying : IsLying s (relocation_of x)
  pub ending : (x.place + width_of x.kind ≤ size_of s.contents) ⊎ (width_of x.kind ≡ 0)

all_fine : (s : Section) (xs : List Declared) → list_all (is_padding true s.contents) (map relocation_of xs) ≡ true → list_all (fits_inside s.contents) (map relocation_of xs) ≡ true → AllByRecursion (IsFine s) xs
all_fine s [] padding inside = tt
all_fine s (x ∷ xs) padding inside =
    let one = and_parts (is_padding true s.contents (relocation_of x)) (list_all (is_padding true s.contents) (map relocation_of xs)) padding in
    let two = and_parts (fits_inside s.contents (relocation_of x)) (list_all (fits_inside s.contents) (map relocation_of xs)) inside in
    (record { lying = lies s (relocation_of x) one.0 two.0; ending = ends s.contents (relocation_of x) two.0 }, all_fine s xs one.1 two.1)

pub section_fine : (s : DeclaredSection) → goes_to_text (section_of s) ≡ true → All (IsFine (section_of s)) s.relocations.items
section_fine s text =
    let executable = (and_parts s.loaded s.executable text).1 in
    All-from_recursion (IsFine (section_of s)) s.relocations.items (all_fine (section_of s) s.relocations.items (of_code s.executable executable s.paddings) s.inside)
  where
    of_code : (e : Bool) → e ≡ true → (list_all (is_padding e (section_of s).contents) (section_of s).relocations && (not e || are_all_apart (section_of s).relocations)) ≡ true
        → list_all (is_padding true (section_of s).contents) (section_of s).relocations ≡ true
    of_code true e h = (and_parts (list_all (is_padding true (section_of s).contents) (section_of s).relocations) (are_all_apart (section_of s).relocations) h).0
    of_code false e h = absurd (cc)

pub section_apart : (s : DeclaredSection) → goes_to_text (section_of s) ≡ true → are_all_apart (section_of s).relocations ≡ true
section_apart s text = of_code s.executable (and_parts s.loaded s.executable text).1 s.paddings
  where
    of_code : (e : Bool) → e ≡ true → (list_all (is_padding e (section_of s).contents) (section_of s).relocations && (not e || are_all_apart (section_of s).relocations)) ≡ true
        → are_all_apart (section_of s).relocations ≡ true
    of_code true e h = (and_parts (list_all (is_padding true (section_of s).contents) (section_of s).relocations) (are_all_apart (section_of s).relocations) h).1
    of_code false e h = absurd (cc)

pub fine_at : (s : DeclaredSection) (sorted : List Declared) (k : ℕ) → goes_to_text (section_of s) ≡ true → IsPermutation s.relocations.items sorted → k < length sorted → IsFine (section_of s) (at sorted k)
fine_at s sorted k text same inside = All-get_or (IsFine (section_of s)) sorted k zeros_relocation inside (All-permutation (IsFine (section_of s)) s.relocations.items sorted same (section_fine s text))

pub field_low : (s : Section) (x : Declared) → IsFine s x → size_of s.contents < 2 ^ 64 → 0 < width_of x.kind → x.place + width_of x.kind < 2 ^ 64
field_low s x h low some = by h.ending
  where
    by : (x.place + width_of x.kind ≤ size_of s.contents) ⊎ (width_of x.kind ≡ 0) → x.place + width_of x.kind < 2 ^ 64
    by (inl e) = omega (arith, e, low)
    by (inr e) = absurd (omega (arith, e, some))

-- ---- one more of them

module _ (sorted : List Declared) (k : ℕ) (inside : k < length sorted) where
  pub taken : map relocation_of (take (k + 1) sorted) ≡ map relocation_of (take k sorted) ++ relocation_of (at sorted k) ∷ []
  taken = ap (map relocation_of) (take_more sorted k zeros_relocation inside) ∙ map-append relocation_of (take k sorted) (at sorted k ∷ [])

  pub whole : map relocation_of (take k sorted) ++ relocation_of (at sorted k) ∷ map relocation_of (drop (k + 1) sorted) ≡ map relocation_of sorted
  whole =
      ap (λ l. map relocation_of (take k sorted) ++ l) (sym (relocations_left sorted k inside)) ∙ sym (map-append relocation_of (take k sorted) (drop k sorted)) ∙ ap (map relocation_of) (take-append-drop k sorted)

  -- the same, where those behind it are a slice up to the end
  pub whole_sliced : map relocation_of (take k sorted) ++ relocation_of (at sorted k) ∷ map relocation_of (take (length sorted - (k + 1)) (drop (k + 1) sorted)) ≡ map relocation_of sorted
  whole_sliced =
      let many = length-drop (k + 1) sorted in
      ap (λ l. map relocation_of (take k sorted) ++ relocation_of (at sorted k) ∷ map relocation_of l) (take_all (length sorted - (k + 1)) (drop (k + 1) sorted) (omega (arith, many))) ∙ whole

  module _ (os : List Object) (i : InputSection) (first : ℕ) where
    some_more : (xs : List Relocation) (r : Relocation) (b : Bool) → may_change os i r ≡ b
        → map (site_of os i first) (filter (may_change os i) (xs ++ r ∷ [])) ≡ map (site_of os i first) (filter (may_change os i) xs) ++ (if b then site_of os i first r ∷ [] else [])
    some_more xs r b is =
        ap (map (site_of os i first)) (filter-append (may_change os i) xs (r ∷ []))
        ∙ map-append (site_of os i first) (filter (may_change os i) xs) (filter (may_change os i) (r ∷ []))
        ∙ ap (λ l. map (site_of os i first) (filter (may_change os i) xs) ++ l) (one b is)
      where
        one : (c : Bool) → may_change os i r ≡ c → map (site_of os i first) (filter (may_change os i) (r ∷ [])) ≡ (if c then site_of os i first r ∷ [] else [])
        one true e = ap (λ c. map (site_of os i first) (if c then r ∷ [] else [])) e
        one false e = ap (λ c. map (site_of os i first) (if c then r ∷ [] else [])) e

    pub change_more : (old now new : List Site) → now ≡ old ++ map (site_of os i first) (filter (may_change os i) (map relocation_of (take k sorted)))
        → new ≡ now ++ added os i (relocation_of (at sorted k)) first → new ≡ old ++ map (site_of os i first) (filter (may_change os i) (map relocation_of (take (k + 1) sorted)))
    change_more old now new before h =
        let xs = map relocation_of (take k sorted) in
        let r = relocation_of (at sorted k) in
        h ∙ ap (λ l. l ++ added os i r first) before ∙ append_assoc old (map (site_of os i first) (filter (may_change os i) xs)) (added os i r first)
        ∙ ap (λ l. old ++ l) (sym (some_more xs r (may_change os i r) refl)) ∙ ap (λ l. old ++ map (site_of os i first) (filter (may_change os i) l)) (sym taken)
