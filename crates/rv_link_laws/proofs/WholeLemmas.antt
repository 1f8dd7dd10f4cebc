-- What is left of whole objects is whole.

use Rattle.std.proofs.Common.{◌≡◌, ℕ, suc, Bool, true, false, not, ◌&&◌, ◌||◌, List, [], ◌∷◌, length, filter, refl, ap, ◌∙◌, Option, Some, None}
use Rattle.std.specs.Prelude.{if◌then◌else◌}
use Rattle.std.specs.Option.{option_map}
use Rattle.std.specs.List.{AllByRecursion, list_all, slice_get}
use Rattle.std.proofs.lemmas.Bool.{and_parts, and_from}
use Rattle.rv_map_laws.specs.declared.map.SectionId.{SectionId}
use Rattle.rv_collect_laws.specs.Graph.{is_dropped}
use Rattle.rv_object_laws.specs.declared.row.Row.{Row}
use Rattle.rv_object_laws.specs.Object.{Contents, Progbits, Note, Nobits, Section, Symbol, Object}
use Rattle.rv_object_laws.specs.Valid.{fit_inside, is_below, are_indexed, is_defined_in, are_defined, is_row_in, are_rows}
use Rattle.rv_object_laws.specs.Whole.{IsWholeSection, IsWhole}
use Rattle.rv_link_laws.specs.Without.{without_section, without_sections, without_object, without_from, without}
use Rattle.rv_link_laws.proofs.WithoutLemmas.{as_many_sections, section_left}

-- ---- sections that are left

pub by_paddings : (executable : Bool) → (true && (not executable || true)) ≡ true
by_paddings true = refl
by_paddings false = refl

pub by_fits : (c : Contents) → fit_inside c [] ≡ true
by_fits (Progbits bytes) = refl
by_fits (Note bytes) = refl
by_fits (Nobits size) = refl

pub whole_section : (b : Bool) (s : Section) → IsWholeSection s → IsWholeSection (without_section b s)
whole_section false s h = h
whole_section true s h = record {
  named = h.named;
  kept = h.kept;
  aligned = h.aligned;
  even = h.even;
  alone = refl;
  inside = by_fits s.contents;
  paddings = by_paddings s.executable;
}

whole_sections : (dropped : ℕ → Bool) (index : ℕ) (ss : List Section) → AllByRecursion IsWholeSection ss → AllByRecursion IsWholeSection (without_sections dropped index ss)
whole_sections dropped index [] h = h
whole_sections dropped index (s ∷ ss) h = (whole_section (dropped index) s h.0, whole_sections dropped (suc index) ss h.1)

-- ---- indices of symbols and of sections

indexed_one : (count : ℕ) (b : Bool) (s : Section) → list_all (λ r. is_below count r.symbol) s.relocations ≡ true → list_all (λ r. is_below count r.symbol) (without_section b s).relocations ≡ true
indexed_one count true s h = refl
indexed_one count false s h = h

still_indexed : (symbols : List Symbol) (dropped : ℕ → Bool) (index : ℕ) (ss : List Section) → are_indexed symbols ss ≡ true → are_indexed symbols (without_sections dropped index ss) ≡ true
still_indexed symbols dropped index [] h = h
still_indexed symbols dropped index (s ∷ ss) h =
    let parts = and_parts (list_all (λ r. is_below (length symbols) r.symbol) s.relocations) (are_indexed symbols ss) h in
    and_from (list_all (λ r. is_below (length symbols) r.symbol) (without_section (dropped index) s).relocations) (are_indexed symbols (without_sections dropped (suc index) ss))
    (indexed_one (length symbols) (dropped index) s parts.0) (still_indexed symbols dropped (suc index) ss parts.1)

still_defined : (symbols : List Symbol) (dropped : ℕ → Bool) (ss : List Section) → are_defined ss symbols ≡ true → are_defined (without_sections dropped 0 ss) symbols ≡ true
still_defined symbols dropped ss h = ap (λ n. list_all (λ s. is_defined_in n s.definition) symbols) (as_many_sections dropped 0 ss) ∙ h

-- ---- rows

still_in : (dropped : ℕ → Bool) (o : Object) (r : Row) → dropped r.section ≡ false → is_row_in r (slice_get o.sections r.section) ≡ true
    → is_row_in r (slice_get (without_sections dropped 0 o.sections) r.section) ≡ true
still_in dropped o r left h =
    ap (is_row_in r) (section_left dropped o r.section) ∙ ap (λ b. is_row_in r (option_map (without_section b) (slice_get o.sections r.section))) left ∙ same (slice_get o.sections r.section) h
  where
    same : (s : Option Section) → is_row_in r s ≡ true → is_row_in r (option_map (without_section false) s) ≡ true
    same None h = h
    same (Some s) h = h

still_lie : (dropped : ℕ → Bool) (o : Object) (rs : List Row) → are_rows o.sections rs ≡ true → are_rows (without_sections dropped 0 o.sections) (filter (λ r. not (dropped r.section)) rs) ≡ true
still_lie dropped o [] h = refl
still_lie dropped o (r ∷ rs) h =
    let parts = and_parts (is_row_in r (slice_get o.sections r.section)) (are_rows o.sections rs) h in
    by (dropped r.section) refl parts.0 (still_lie dropped o rs parts.1)
  where
    rest : List Row
    rest = filter (λ q. not (dropped q.section)) rs

    by : (b : Bool) → dropped r.section ≡ b → is_row_in r (slice_get o.sections r.section) ≡ true → are_rows (without_sections dropped 0 o.sections) rest ≡ true
        → are_rows (without_sections dropped 0 o.sections) (if not b then r ∷ rest else rest) ≡ true
    by true e here more = more
    by false e here more =
        and_from (is_row_in r (slice_get (without_sections dropped 0 o.sections) r.section)) (are_rows (without_sections dropped 0 o.sections) rest) (still_in dropped o r e here) more

-- ---- objects that are left

pub whole_object : (dropped : ℕ → Bool) (o : Object) → IsWhole o → IsWhole (without_object dropped o)
whole_object dropped o h = record {
  sections = whole_sections dropped 0 o.sections h.sections;
  indexed = still_indexed o.symbols dropped 0 o.sections h.indexed;
  defined = still_defined o.symbols dropped o.sections h.defined;
  lie = still_lie dropped o o.rows h.lie;
}

whole_from : (drops : List SectionId) (file : ℕ) (os : List Object) → AllByRecursion IsWhole os → AllByRecursion IsWhole (without_from drops file os)
whole_from drops file [] h = h
whole_from drops file (o ∷ os) h = (whole_object (is_dropped drops file) o h.0, whole_from drops (suc file) os h.1)

-- what is left of whole objects is whole
pub whole_left : (drops : List SectionId) (os : List Object) → AllByRecursion IsWhole os → AllByRecursion IsWhole (without drops os)
whole_left drops os h = whole_from drops 1 os h
