-- What collection drops of objects is one list, and what it leaves keeps of them what the laws ask.

use Rattle.std.proofs.Common.{◌≡◌, ℕ, suc, Bool, true, false, not, cond, List, [], ◌∷◌, refl, ap, subst, ◌∙◌, Option, Some, None}
use Rattle.std.specs.Prelude.{IsTrue, filter, option_map}
use Rattle.std.specs.List.{AllByRecursion, slice_get}
use Rattle.std.proofs.lemmas.Bool.{and_parts, and_from}
use Rattle.rv_map_laws.specs.declared.map.SectionId.{SectionId}
use Rattle.rv_collect_laws.specs.Graph.{is_dropped}
use Rattle.rv_collect_laws.proofs.MarksLemmas.{same_drops}
use Rattle.rv_object_laws.specs.declared.row.Row.{Row}
use Rattle.rv_object_laws.specs.Object.{Section, Object}
use Rattle.rv_object_laws.specs.Valid.{is_section_alignment, fit_inside, are_paddings, is_row_in, are_rows}
use Rattle.rv_link_laws.specs.Collects.{graph_of}
use Rattle.rv_link_laws.specs.IsProgramOf.{Leaves}
use Rattle.rv_link_laws.specs.Shortened.{Relaxes}
use Rattle.rv_link_laws.specs.Without.{without_section, without_sections, without_object, without_from, without}
use Rattle.rv_link_laws.proofs.WithoutLemmas.{section_left}
use Rattle.rv_link_laws.specs.Undefined.{is_loaded_at}
use Rattle.rv_unique_theorems.specs.Asked.{HasPlacedRows, HavePlacedRows, IsSound}
use Rattle.rv_unique_theorems.proofs.LeftLemmas.{one_left}
use Rattle.rv_link_laws.proofs.WholeLemmas.{by_paddings as no_paddings, by_fits as nothing_inside}

-- ---- one list

pub one_leaves : (os : List Object) (relax gc : Bool) (drops others : List SectionId) (left other : List Object) → Leaves os relax gc drops left → Leaves os relax gc others other → (others ≡ drops) × (other ≡ left)
one_leaves os relax gc drops others left other a b =
    let same : others ≡ drops = same_drops gc (graph_of os) others drops b.collected a.collected in
    (same, one_left relax (without drops os) other left (subst (λ ds. Relaxes relax (without ds os) other) same b.relaxed) a.relaxed)

-- ---- sections by their indices

same_option : (f : Option Section) → option_map (without_section false) f ≡ f
same_option None = refl
same_option (Some s) = refl

section_stays : (dropped : ℕ → Bool) (o : Object) (j : ℕ) → dropped j ≡ false → slice_get (without_sections dropped 0 o.sections) j ≡ slice_get o.sections j
section_stays dropped o j e = section_left dropped o j ∙ ap (λ b. option_map (without_section b) (slice_get o.sections j)) e ∙ same_option (slice_get o.sections j)

-- ---- rows

stays_by : (P : Row → Type 0) (r : Row) (rs : List Row) (b : Bool) → (b ≡ false → P r) → AllByRecursion P rs → AllByRecursion P (cond (not b) (r ∷ rs) rs)
stays_by P r rs true one h = h
stays_by P r rs false one h = (one refl, h)

module _ (dropped : ℕ → Bool) (o : Object) where
  placed_left : (rs : List Row) → AllByRecursion (λ r. is_loaded_at (slice_get o.sections r.section) ≡ true) rs
      → AllByRecursion (λ r. is_loaded_at (slice_get (without_sections dropped 0 o.sections) r.section) ≡ true) (filter (λ r. not (dropped r.section)) rs)
  placed_left [] h = tt
  placed_left (r ∷ rs) (one, h) =
      stays_by (λ q. is_loaded_at (slice_get (without_sections dropped 0 o.sections) q.section) ≡ true) r (filter (λ q. not (dropped q.section)) rs) (dropped r.section)
      (λ e. ap is_loaded_at (section_stays dropped o r.section e) ∙ one) (placed_left rs h)

  rows_left : (rs : List Row) → are_rows o.sections rs ≡ true → are_rows (without_sections dropped 0 o.sections) (filter (λ r. not (dropped r.section)) rs) ≡ true
  rows_left [] h = refl
  rows_left (r ∷ rs) h =
      let parts = and_parts (is_row_in r (slice_get o.sections r.section)) (are_rows o.sections rs) h in
      by (dropped r.section) refl parts.0 (rows_left rs parts.1)
    where
      rest : List Row
      rest = filter (λ q. not (dropped q.section)) rs

      by : (b : Bool) → dropped r.section ≡ b → is_row_in r (slice_get o.sections r.section) ≡ true → are_rows (without_sections dropped 0 o.sections) rest ≡ true
          → are_rows (without_sections dropped 0 o.sections) (cond (not b) (r ∷ rest) rest) ≡ true
      by true e here more = more
      by false e here more =
          and_from (is_row_in r (slice_get (without_sections dropped 0 o.sections) r.section)) (are_rows (without_sections dropped 0 o.sections) rest) (ap (is_row_in r) (section_stays dropped o r.section e) ∙ here) more

-- ---- sections

all_sections : (P : Section → Type 0) → ((b : Bool) (s : Section) → P s → P (without_section b s)) → (dropped : ℕ → Bool) (k : ℕ) (ss : List Section) → AllByRecursion P ss
    → AllByRecursion P (without_sections dropped k ss)
all_sections P f dropped k [] h = tt
all_sections P f dropped k (s ∷ ss) (one, h) = (f (dropped k) s one, all_sections P f dropped (suc k) ss h)

aligned_left : (b : Bool) (s : Section) → IsTrue (is_section_alignment s.alignment) → IsTrue (is_section_alignment (without_section b s).alignment)
aligned_left true s h = h
aligned_left false s h = h

inside_left : (b : Bool) (s : Section) → IsTrue (fit_inside s.contents s.relocations) → IsTrue (fit_inside (without_section b s).contents (without_section b s).relocations)
inside_left true s h = nothing_inside s.contents
inside_left false s h = h

paddings_left : (b : Bool) (s : Section) → IsTrue (are_paddings s.executable s.contents s.relocations)
    → IsTrue (are_paddings (without_section b s).executable (without_section b s).contents (without_section b s).relocations)
paddings_left true s h = no_paddings s.executable
paddings_left false s h = h

-- ---- objects

all_from : (P : Object → Type 0) → ((dropped : ℕ → Bool) (o : Object) → P o → P (without_object dropped o)) → (drops : List SectionId) (file : ℕ) (os : List Object) → AllByRecursion P os
    → AllByRecursion P (without_from drops file os)
all_from P f drops file [] h = tt
all_from P f drops file (o ∷ os) (one, h) = (f (is_dropped drops file) o one, all_from P f drops (suc file) os h)

pub without_placed : (drops : List SectionId) (os : List Object) → HavePlacedRows os → HavePlacedRows (without drops os)
without_placed drops os h = all_from HasPlacedRows (λ dropped o one. placed_left dropped o o.rows one) drops 1 os h

pub without_sound : (drops : List SectionId) (os : List Object) → AllByRecursion IsSound os → AllByRecursion IsSound (without drops os)
without_sound drops os h =
    all_from IsSound
    (λ dropped o one. record {
      alignments = all_sections (λ s. IsTrue (is_section_alignment s.alignment)) aligned_left dropped 0 o.sections one.alignments;
      inside = all_sections (λ s. IsTrue (fit_inside s.contents s.relocations)) inside_left dropped 0 o.sections one.inside;
      paddings = all_sections (λ s. IsTrue (are_paddings s.executable s.contents s.relocations)) paddings_left dropped 0 o.sections one.paddings;
      rows = rows_left dropped o o.rows one.rows;
    })
    drops 1 os h
