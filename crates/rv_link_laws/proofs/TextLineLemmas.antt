-- The sites of objects make a text.

use Rattle.std.proofs.Common.{◌≡◌, ℕ, zero, suc, ◌+◌, ◌-◌, ◌<◌, ◌≤◌, min, ◌⊎◌, inl, inr, Bool, true, false, ◌&&◌, ◌||◌, not, List, [], ◌∷◌, ◌++◌, Option, Some, None, map, slice_index_or, IsTrue, refl, sym, ap, subst, ◌∙◌, arith}
use Rattle.std.specs.Prelude.{◌==◌, if◌then◌else◌, filter}
use Rattle.std.specs.List.{AllByRecursion, list_all, list_any, slice_get}
use Rattle.std.proofs.lemmas.Bool.{cases_lt, eqb-true, eq-eqb, and_parts, and_from, or_left, or_right}
use Rattle.rv_list_laws.proofs.FilterLemmas.{all_filtered}
use Rattle.rv_list_laws.proofs.EachLemmas.{each_append, each_get_or}
use Rattle.rv_list_laws.proofs.TestsLemmas.{any_left, any_right}
use Rattle.rv_size_laws.specs.Sites.{padding_site}
use Rattle.rv_size_laws.specs.declared.site.Site.{Site}
use Rattle.rv_size_laws.specs.declared.site.SiteKind.{SiteKind}
use Rattle.rv_size_laws.specs.declared.site.SiteKind.TheVariants.{Call, Padding}
use Rattle.rv_size_laws.specs.Calls.{bytes_of, site_at, InOrder, IsOutside, LeadsOutside, IsText}
use Rattle.rv_size_laws.specs.Calls as layout
use Rattle.rv_object_laws.specs.Object.{Section, Object, Relocation, size_of}
use Rattle.rv_object_laws.specs.Valid.{held, is_align, is_padding, are_all_apart}
use Rattle.rv_link_laws.specs.Moves.{full_padding, has_padding, alignment_of}
use Rattle.rv_link_laws.specs.Inputs.{InputSection, goes_to_text, inputs_from, inputs_of, inputs}
use Rattle.rv_link_laws.specs.Names.{Place, no_object, object_at, is_in_text}
use Rattle.rv_link_laws.specs.CallSites.{home, moving, is_text_place, target_place, is_entered, may_change, changes, start_padding, base_in, base, text_offset, call_site, site_of, sites_from, sites_of, length_of}
use Rattle.rv_object_laws.specs.Whole.{IsWhole}
use Rattle.rv_link_laws.specs.Within.{LeadsWithin, IsWithin}
use Rattle.rv_link_laws.proofs.ChangesLemmas.{IsPermitted, IsChange, Stand, held_full, held_call, change, all_ordered, changes_stand}
use Rattle.rv_link_laws.proofs.TextInputsLemmas.{IsTextInput, whole_inputs}
use Rattle.rv_link_laws.proofs.TextPlacesLemmas.{is_named, IsNamed, target_named, not_inside}

-- ---- sites one behind the other, from an offset to another

abbrev pub Between : (from to : ℕ) → List Site → Type 0
Between from to [] = from ≤ to
Between from to (s ∷ ss) = (from ≤ s.offset) × Between (s.offset + bytes_of s.kind) to ss

between_lower : (low from to : ℕ) (ss : List Site) → low ≤ from → Between from to ss → Between low to ss
between_lower low from to [] le h = omega (arith, le, h)
between_lower low from to (s ∷ ss) le h = let first = h.0 in (omega (arith, le, first), h.1)

between_append : (from mid to : ℕ) (ss more : List Site) → Between from mid ss → Between mid to more → Between from to (ss ++ more)
between_append from mid to [] more h g = between_lower from mid to more h g
between_append from mid to (s ∷ ss) more h g = (h.0, between_append (s.offset + bytes_of s.kind) mid to ss more h.1 g)

between_up : (from to : ℕ) (ss : List Site) → Between from to ss → from ≤ to
between_up from to [] h = h
between_up from to (s ∷ ss) h = let first = h.0 in let more = between_up (s.offset + bytes_of s.kind) to ss h.1 in omega (arith, first, more)

in_order_between : (from to : ℕ) (ss : List Site) → Between from to ss → InOrder from ss
in_order_between from to [] h = tt
in_order_between from to (s ∷ ss) h = (h.0, in_order_between (s.offset + bytes_of s.kind) to ss h.1)

ends_between : (from to : ℕ) (ss : List Site) → Between from to ss → (i : ℕ) → (site_at ss i).offset + bytes_of (site_at ss i).kind ≤ to
ends_between from to [] h i = omega arith
ends_between from to (s ∷ ss) h zero = between_up (s.offset + bytes_of s.kind) to ss h.1
ends_between from to (s ∷ ss) h (suc i) = ends_between (s.offset + bytes_of s.kind) to ss h.1 i

-- ---- the sites of a section

module _ (os : List Object) (i : InputSection) (first : ℕ) where
  pub site_offset : (r : Relocation) → (site_of os i first r).offset ≡ first + r.place
  site_offset r = by (has_padding r)
    where
      by : (b : Bool) → (if b then padding_site (first + r.place) (full_padding r) (alignment_of r) else call_site os i (first + r.place) r).offset ≡ first + r.place
      by true = refl
      by false = refl

  site_padding : (r : Relocation) → has_padding r ≡ true → bytes_of (site_of os i first r).kind ≡ full_padding r
  site_padding r e = ap (λ b. bytes_of (if b then padding_site (first + r.place) (full_padding r) (alignment_of r) else call_site os i (first + r.place) r).kind) e

  pub site_call : (r : Relocation) → has_padding r ≡ false → site_of os i first r ≡ call_site os i (first + r.place) r
  site_call r e = ap (λ b. if b then padding_site (first + r.place) (full_padding r) (alignment_of r) else call_site os i (first + r.place) r) e

  site_bytes : (r : Relocation) → IsChange os i r → bytes_of (site_of os i first r).kind ≡ held r
  site_bytes r it = by it.kind
    where
      by : ((is_align r.kind ≡ true) × (has_padding r ≡ true)) ⊎ ((has_padding r ≡ false) × IsPermitted os i r) → bytes_of (site_of os i first r).kind ≡ held r
      by (inl a) = site_padding r a.1 ∙ sym (held_full r a.0)
      by (inr a) = ap (λ (s : Site). bytes_of s.kind) (site_call r a.0) ∙ sym (held_call r a.1.call)

  between_changes : (from to : ℕ) (rs : List Relocation) → Stand from to rs → list_all (may_change os i) rs ≡ true → Between (first + from) (first + to) (map (site_of os i first) rs)
  between_changes from to [] h each = omega (arith, h)
  between_changes from to (r ∷ rs) h each =
      let both = and_parts (may_change os i r) (list_all (may_change os i) rs) each in
      let at = site_offset r in
      let bytes = site_bytes r (change os i r both.0) in
      let place = h.0 in
      let stop : first + (r.place + held r) ≡ (site_of os i first r).offset + bytes_of (site_of os i first r).kind = omega (arith, at, bytes) in
      (omega (arith, at, place), subst (λ n. Between n (first + to) (map (site_of os i first) rs)) stop (between_changes (r.place + held r) to rs h.1 both.1))

  all_change : list_all (may_change os i) (changes os i) ≡ true
  all_change = all_ordered (may_change os i) (filter (may_change os i) i.section.relocations) (all_filtered (may_change os i) i.section.relocations)

  pub between_section : IsTextInput os i → Between first (first + size_of i.section.contents) (map (site_of os i first) (changes os i))
  between_section it =
      let text = and_parts i.section.loaded i.section.executable it.text in
      let both = of_code i.section.executable text.1 it.paddings in
      let zero_first : first + 0 ≡ first = omega arith in
      subst (λ n. Between n (first + size_of i.section.contents) (map (site_of os i first) (changes os i))) zero_first
      (between_changes 0 (size_of i.section.contents) (changes os i) (changes_stand os i both.0 it.inside both.1) all_change)
    where
      of_code : (e : Bool) → e ≡ true → (list_all (is_padding e i.section.contents) i.section.relocations && (not e || are_all_apart i.section.relocations)) ≡ true
          → (list_all (is_padding true i.section.contents) i.section.relocations ≡ true) × (are_all_apart i.section.relocations ≡ true)
      of_code true e h = and_parts (list_all (is_padding true i.section.contents) i.section.relocations) (are_all_apart i.section.relocations) h
      of_code false e h = absurd (cc)

-- ---- all sections

pub between_sites : (os : List Object) (offset : ℕ) (is : List InputSection) → AllByRecursion (IsTextInput os) is → Between offset (offset + length_of is) (sites_from os offset is)
between_sites os offset [] h = omega arith
between_sites os offset (i ∷ is) h =
    let first = offset + start_padding i.section in
    let stop = first + size_of i.section.contents in
    let ends : stop + length_of is ≡ offset + length_of (i ∷ is) = omega arith in (
      omega arith,
      between_append first stop (offset + length_of (i ∷ is)) (map (site_of os i first) (changes os i)) (sites_from os stop is) (between_section os i first h.0)
          (subst (λ n. Between stop n (sites_from os stop is)) ends (between_sites os stop is h.1)),
    )

-- ---- places in text

-- a place of text that a symbol names
pub record IsTextPlace (os : List Object) (p : Place) : Type 0 where
  pub named : IsNamed os p
  pub text : is_in_text (home os p) ≡ true

-- where it is in the line, or the end that it moves with
abbrev pub line_offset : List Object → Place → ℕ
line_offset os p = base os p.file p.section + moving (home os p) p.offset

abbrev LeadsKind : List Object → SiteKind → Type 0
LeadsKind os (Call call) = (p : Place) × (call.target ≡ line_offset os p) × IsTextPlace os p
LeadsKind os (Padding padding) = Unit {0}

abbrev pub Leads : List Object → Site → Type 0
Leads os s = LeadsKind os s.kind

leads_to : (os : List Object) (o : Option Place) → ((p : Place) → o ≡ Some p → IsNamed os p) → is_text_place os o ≡ true
    → (p : Place) × (text_offset os o ≡ line_offset os p) × IsTextPlace os p
leads_to os None named h = absurd (cc)
leads_to os (Some p) named h = (p, refl, record { named = named p refl; text = h })

site_leads : (os : List Object) (i : InputSection) (first : ℕ) (r : Relocation) → IsTextInput os i → IsChange os i r → Leads os (site_of os i first r)
site_leads os i first r input it = by it.kind
  where
    padding : has_padding r ≡ true → Leads os (site_of os i first r)
    padding e = subst (Leads os) (sym (ap (λ b. if b then padding_site (first + r.place) (full_padding r) (alignment_of r) else call_site os i (first + r.place) r) e)) tt

    by : ((is_align r.kind ≡ true) × (has_padding r ≡ true)) ⊎ ((has_padding r ≡ false) × IsPermitted os i r) → Leads os (site_of os i first r)
    by (inl a) = padding a.1
    by (inr a) = subst (Leads os) (sym (site_call os i first r a.0)) (leads_to os (target_place os i r) (λ p e. target_named os i r p input.counted input.at e) a.1.leads)

changes_lead : (os : List Object) (i : InputSection) (first : ℕ) (rs : List Relocation) → IsTextInput os i → list_all (may_change os i) rs ≡ true → AllByRecursion (Leads os) (map (site_of os i first) rs)
changes_lead os i first [] input h = tt
changes_lead os i first (r ∷ rs) input h =
    let both = and_parts (may_change os i r) (list_all (may_change os i) rs) h in
    (site_leads os i first r input (change os i r both.0), changes_lead os i first rs input both.1)

sites_lead : (os : List Object) (offset : ℕ) (is : List InputSection) → AllByRecursion (IsTextInput os) is → AllByRecursion (Leads os) (sites_from os offset is)
sites_lead os offset [] h = tt
sites_lead os offset (i ∷ is) h =
    let first = offset + start_padding i.section in
    let stop = first + size_of i.section.contents in
    (tt, each_append (Leads os) (map (site_of os i first) (changes os i)) (sites_from os stop is) (changes_lead os i first (changes os i) h.0 (all_change os i first)) (sites_lead os stop is h.1))

-- ---- they are outside calls

abbrev Avoids : ℕ → Site → Type 0
Avoids old s = IsTrue (layout.is_call s.kind) → IsOutside old s

avoid_before : (old from to : ℕ) (ss : List Site) → old ≤ from → Between from to ss → AllByRecursion (Avoids old) ss
avoid_before old from to [] le h = tt
avoid_before old from to (s ∷ ss) le h =
    let first = h.0 in
    ((λ call. inl (omega (arith, le, first))), avoid_before old (s.offset + bytes_of s.kind) to ss (omega (arith, le, first)) h.1)

avoid_after : (old from to : ℕ) (ss : List Site) → to ≤ old → Between from to ss → AllByRecursion (Avoids old) ss
avoid_after old from to [] le h = tt
avoid_after old from to (s ∷ ss) le h =
    let more = between_up (s.offset + bytes_of s.kind) to ss h.1 in
    ((λ call. inr (omega (arith, le, more))), avoid_after old (s.offset + bytes_of s.kind) to ss le h.1)

module _ (os : List Object) (i : InputSection) (first : ℕ) (p : Place) (input : IsTextInput os i) (place : IsTextPlace os p) (file : i.file ≡ p.file) (index : i.index ≡ p.section) where
  holder : object_at os p.file ≡ i.object
  holder = ap (object_at os) (sym file) ∙ input.at

  avoids_call : (r : Relocation) → IsPermitted os i r → IsOutside (first + p.offset) (call_site os i (first + r.place) r)
  avoids_call r it =
      by
      (not_inside i.object p r.place (ap (λ x. is_named x p) (sym holder) ∙ place.named.named)
      (ap (λ n. is_entered i.object n r.place) (sym index) ∙ it.entered))
    where
      by : (p.offset ≤ r.place) ⊎ (r.place + 8 ≤ p.offset) → IsOutside (first + p.offset) (call_site os i (first + r.place) r)
      by (inl e) = inl (omega (arith, e))
      by (inr e) = inr (omega (arith, e))

  avoids_change : (r : Relocation) → IsChange os i r → Avoids (first + p.offset) (site_of os i first r)
  avoids_change r it = by it.kind
    where
      no_call : has_padding r ≡ true → Avoids (first + p.offset) (site_of os i first r)
      no_call e = subst (Avoids (first + p.offset)) (sym (ap (λ b. if b then padding_site (first + r.place) (full_padding r) (alignment_of r) else call_site os i (first + r.place) r) e)) (λ h. absurd (cc))

      by : ((is_align r.kind ≡ true) × (has_padding r ≡ true)) ⊎ ((has_padding r ≡ false) × IsPermitted os i r) → Avoids (first + p.offset) (site_of os i first r)
      by (inl a) = no_call a.1
      by (inr a) = subst (Avoids (first + p.offset)) (sym (site_call os i first r a.0)) (λ h. avoids_call r a.1)

  avoids_changes : (rs : List Relocation) → list_all (may_change os i) rs ≡ true → AllByRecursion (Avoids (first + p.offset)) (map (site_of os i first) rs)
  avoids_changes [] h = tt
  avoids_changes (r ∷ rs) h =
      let both = and_parts (may_change os i r) (list_all (may_change os i) rs) h in
      (avoids_change r (change os i r both.0), avoids_changes rs both.1)

  -- it stands in its section, or moves with the end
  at_home : home os p ≡ Some i.section
  at_home = ap (λ (o : Object). slice_get o.sections p.section) holder ∙ ap (slice_get i.object.sections) (sym index) ∙ input.there

  stands_low : moving (home os p) p.offset ≡ min p.offset (size_of i.section.contents)
  stands_low = ap (λ s. moving s p.offset) at_home

  avoids_own : AllByRecursion (Avoids (first + min p.offset (size_of i.section.contents))) (map (site_of os i first) (changes os i))
  avoids_own = by (cases_lt (size_of i.section.contents) p.offset)
    where
      own : List Site
      own = map (site_of os i first) (changes os i)

      by : (size_of i.section.contents < p.offset) ⊎ (p.offset ≤ size_of i.section.contents) → AllByRecursion (Avoids (first + min p.offset (size_of i.section.contents))) own
      by (inr low) =
          let same : p.offset ≡ min p.offset (size_of i.section.contents) = omega (arith, low) in
          subst (λ n. AllByRecursion (Avoids (first + n)) own) same (avoids_changes (changes os i) (all_change os i first))
      by (inl past) =
          avoid_after (first + min p.offset (size_of i.section.contents)) first (first + size_of i.section.contents) own (omega (arith, past)) (between_section os i first input)

avoids : (os : List Object) (offset : ℕ) (is : List InputSection) (p : Place) → AllByRecursion (IsTextInput os) is → IsTextPlace os p
    → AllByRecursion (Avoids (offset + (base_in is p.file p.section + moving (home os p) p.offset))) (sites_from os offset is)
avoids os offset [] p inputs place = tt
avoids os offset (i ∷ is) p inputs place = by ((i.file == p.file) && (i.index == p.section)) refl (avoids os (offset + start_padding i.section + size_of i.section.contents) is p inputs.1 place)
  where
    first : ℕ
    first = offset + start_padding i.section

    stop : ℕ
    stop = first + size_of i.section.contents

    own : List Site
    own = map (site_of os i first) (changes os i)

    all : (old : ℕ) → AllByRecursion (Avoids old) own → AllByRecursion (Avoids old) (sites_from os stop is) → AllByRecursion (Avoids old) (sites_from os offset (i ∷ is))
    all old h g = ((λ call. absurd (cc)), each_append (Avoids old) own (sites_from os stop is) h g)

    at : ℕ
    at = moving (home os p) p.offset

    by : (b : Bool) → ((i.file == p.file) && (i.index == p.section)) ≡ b → AllByRecursion (Avoids (stop + (base_in is p.file p.section + at))) (sites_from os stop is)
        → AllByRecursion (Avoids (offset + (start_padding i.section + (if b then 0 else size_of i.section.contents + base_in is p.file p.section) + at))) (sites_from os offset (i ∷ is))
    by true e more =
        let both = and_parts (i.file == p.file) (i.index == p.section) e in
        let file = eqb-true i.file p.file both.0 in
        let index = eqb-true i.index p.section both.1 in
        let here = first + min p.offset (size_of i.section.contents) in
        let low = stands_low os i first p inputs.0 place file index in
        let same : here ≡ offset + (start_padding i.section + 0 + at) = omega (arith, low) in
        subst (λ old. AllByRecursion (Avoids old) (sites_from os offset (i ∷ is))) same
        (all here (avoids_own os i first p inputs.0 place file index) (avoid_before here stop (stop + length_of is) (sites_from os stop is) (omega arith) (between_sites os stop is inputs.1)))
    by false e more =
        let old = stop + (base_in is p.file p.section + at) in
        let same : old ≡ offset + (start_padding i.section + (size_of i.section.contents + base_in is p.file p.section) + at) = omega arith in
        subst (λ old. AllByRecursion (Avoids old) (sites_from os offset (i ∷ is))) same
        (all old (avoid_after old first stop own (omega arith) (between_section os i first inputs.0)) more)

-- ---- and within the line

abbrev is_at : (file index : ℕ) → InputSection → Bool
is_at file index i = (i.file == file) && (i.index == index)

base_within : (os : List Object) (is : List InputSection) (p : Place) → AllByRecursion (IsTextInput os) is → IsTextPlace os p → list_any (is_at p.file p.section) is ≡ true
    → base_in is p.file p.section + moving (home os p) p.offset ≤ length_of is
base_within os [] p inputs place found = absurd (cc)
base_within os (i ∷ is) p inputs place found = by (is_at p.file p.section i) refl found (λ e. base_within os is p inputs.1 place e)
  where
    by : (b : Bool) → is_at p.file p.section i ≡ b → (b || list_any (is_at p.file p.section) is) ≡ true
        → (list_any (is_at p.file p.section) is ≡ true → base_in is p.file p.section + moving (home os p) p.offset ≤ length_of is)
        → start_padding i.section + (if b then 0 else size_of i.section.contents + base_in is p.file p.section) + moving (home os p) p.offset ≤ length_of (i ∷ is)
    by true e there more =
        let both = and_parts (i.file == p.file) (i.index == p.section) e in
        let within = stands_low os i 0 p inputs.0 place (eqb-true i.file p.file both.0) (eqb-true i.index p.section both.1) in
        omega (arith, within)
    by false e there more = let within = more there in omega (arith, within)

found_section : (file : ℕ) (o : Object) (index : ℕ) (ss : List Section) (n : ℕ) → is_in_text (slice_get ss n) ≡ true
    → list_any (is_at file (index + n)) (inputs_from goes_to_text file o index ss) ≡ true
found_section file o index [] n h = absurd (cc)
found_section file o index (s ∷ ss) zero h =
    let rest = inputs_from goes_to_text file o (suc index) ss in
    let it : InputSection = record { file = file; object = o; index = index; section = s } in
    ap (λ b. list_any (is_at file (index + 0)) (if b then it ∷ rest else rest)) h
    ∙ or_left (is_at file (index + 0) it) (list_any (is_at file (index + 0)) rest)
    (and_from (file == file) (index == index + 0) (eq-eqb file file refl) (eq-eqb index (index + 0) (omega arith)))
found_section file o index (s ∷ ss) (suc n) h =
    let more = found_section file o (suc index) ss n h in
    let same : suc index + n ≡ index + suc n = omega arith in
    by (goes_to_text s) (subst (λ k. list_any (is_at file k) (inputs_from goes_to_text file o (suc index) ss) ≡ true) same more)
  where
    it : InputSection
    it = record { file = file; object = o; index = index; section = s }

    rest : List InputSection
    rest = inputs_from goes_to_text file o (suc index) ss

    by : (b : Bool) → list_any (is_at file (index + suc n)) rest ≡ true → list_any (is_at file (index + suc n)) (if b then it ∷ rest else rest) ≡ true
    by true more = or_right (is_at file (index + suc n) it) (list_any (is_at file (index + suc n)) rest) more
    by false more = more

found_input : (file : ℕ) (os : List Object) (n index : ℕ) → is_in_text (slice_get (slice_index_or os n no_object).sections index) ≡ true
    → list_any (is_at (file + n) index) (inputs_of goes_to_text file os) ≡ true
found_input file [] n index h = absurd (cc)
found_input file (o ∷ os) zero index h =
    let here = found_section file o 0 o.sections index h in
    let same : 0 + index ≡ index = omega arith in
    let at : file ≡ file + 0 = omega arith in
    any_left (is_at (file + 0) index) (inputs_from goes_to_text file o 0 o.sections) (inputs_of goes_to_text (suc file) os)
    (subst (λ k. list_any (is_at k index) (inputs_from goes_to_text file o 0 o.sections) ≡ true) at
    (subst (λ k. list_any (is_at file k) (inputs_from goes_to_text file o 0 o.sections) ≡ true) same here))
found_input file (o ∷ os) (suc n) index h =
    let more = found_input (suc file) os n index h in
    let at : suc file + n ≡ file + suc n = omega arith in
    any_right (is_at (file + suc n) index) (inputs_from goes_to_text file o 0 o.sections) (inputs_of goes_to_text (suc file) os)
    (subst (λ k. list_any (is_at k index) (inputs_of goes_to_text (suc file) os) ≡ true) at more)

found_place : (os : List Object) (p : Place) → IsTextPlace os p → list_any (is_at p.file p.section) (inputs goes_to_text os) ≡ true
found_place os p place =
    let counted = place.named.counted in
    let same : 1 + (p.file - 1) ≡ p.file = omega (arith, counted) in
    subst (λ k. list_any (is_at k p.section) (inputs goes_to_text os) ≡ true) same (found_input 1 os (p.file - 1) p.section place.text)

place_within : (os : List Object) (p : Place) → AllByRecursion (IsTextInput os) (inputs goes_to_text os) → IsTextPlace os p → line_offset os p ≤ length_of (inputs goes_to_text os)
place_within os p inputs' place = base_within os (inputs goes_to_text os) p inputs' place (found_place os p place)

-- ---- the whole

abbrev pub nowhere : Site
nowhere = record { offset = 0; kind = Padding (record { bytes = 0; alignment = 1 }) }

outside_of : (os : List Object) (k : SiteKind) (s : Site) → LeadsKind os k → ((p : Place) → IsTextPlace os p → Avoids (line_offset os p) s) → LeadsOutside k s
outside_of os (Padding padding) s leads f = tt
outside_of os (Call call) s leads f = subst (λ n. Avoids n s) (sym leads.1) (f leads.0 leads.2)

within_of : (os : List Object) (bytes : ℕ) (k : SiteKind) → LeadsKind os k → ((p : Place) → IsTextPlace os p → line_offset os p ≤ bytes) → LeadsWithin bytes k
within_of os bytes (Padding padding) leads f = tt
within_of os bytes (Call call) leads f = subst (λ n. n ≤ bytes) (sym leads.1) (f leads.0 leads.2)

module _ (os : List Object) (h : AllByRecursion (IsTextInput os) (inputs goes_to_text os)) where
  all_between : Between 0 (length_of (inputs goes_to_text os)) (sites_of os)
  all_between =
      let same : 0 + length_of (inputs goes_to_text os) ≡ length_of (inputs goes_to_text os) = omega arith in
      subst (λ n. Between 0 n (sites_of os)) same (between_sites os 0 (inputs goes_to_text os) h)

  leads_at : (i : ℕ) → Leads os (site_at (sites_of os) i)
  leads_at i = each_get_or (Leads os) (sites_of os) nowhere (sites_lead os 0 (inputs goes_to_text os) h) tt i

  avoids_at : (p : Place) → IsTextPlace os p → (j : ℕ) → Avoids (line_offset os p) (site_at (sites_of os) j)
  avoids_at p place j =
      let same : 0 + line_offset os p ≡ line_offset os p = omega arith in
      each_get_or (Avoids (line_offset os p)) (sites_of os) nowhere
      (subst (λ n. AllByRecursion (Avoids n) (sites_of os)) same (avoids os 0 (inputs goes_to_text os) p h place)) (λ call. absurd (cc)) j

  pub text : IsText (sites_of os)
  text = record {
    in_order = in_order_between 0 (length_of (inputs goes_to_text os)) (sites_of os) all_between;
    outside = λ i j. outside_of os (site_at (sites_of os) i).kind (site_at (sites_of os) j) (leads_at i) (λ p place. avoids_at p place j);
  }

  pub within : (i : ℕ) → IsWithin (length_of (inputs goes_to_text os)) (site_at (sites_of os) i)
  within i = record {
    end = ends_between 0 (length_of (inputs goes_to_text os)) (sites_of os) all_between i;
    leads = within_of os (length_of (inputs goes_to_text os)) (site_at (sites_of os) i).kind (leads_at i) (λ p place. place_within os p h place);
  }

-- the sites of whole objects make a text
pub whole_text : (os : List Object) → AllByRecursion IsWhole os → IsText (sites_of os)
whole_text os h = text os (whole_inputs os h)

-- all of it within the line of the text
pub whole_within : (os : List Object) → AllByRecursion IsWhole os → (i : ℕ) → IsWithin (length_of (inputs goes_to_text os)) (site_at (sites_of os) i)
whole_within os h i = within os (whole_inputs os h) i
