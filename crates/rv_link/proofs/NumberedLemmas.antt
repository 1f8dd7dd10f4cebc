-- The rows of placed objects can stand in a map.

use Rattle.std.proofs.Common.{◌≡◌, ◌≤◌, ◌<◌, ◌+◌, ◌^◌, ℕ, suc, Bool, true, false, if◌then◌else◌, Some, List, [], ◌∷◌, length, map, nat_le, refl, sym, ap, subst, ◌∙◌, arith}
use Rattle.std.specs.List.{AllByRecursion, list_all, slice_get}
use Rattle.std.proofs.lemmas.Bool.{and_parts}
use Rattle.std.proofs.lemmas.Option.{slice_get_within}
use Rattle.rv_list_laws.proofs.EachLemmas.{each_append, each_mapped}
use Rattle.rv_map_laws.specs.Limits.{IsRow}
use Rattle.rv_object_laws.specs.declared.row.Row.{Row}
use Rattle.rv_object_laws.specs.Object.{Object, size_of}
use Rattle.rv_object_laws.specs.Valid.{is_row_in, is_counted, are_counted}
use Rattle.rv_object_laws.proofs.CountedLemmas.{counted_widths}
use Rattle.rv_link_laws.specs.declared.bounds.Ground.{Ground}
use Rattle.rv_link_laws.specs.IsLinkOf.{inserted_row, by_ordinal, map_row, moves_at, row_in, rows_of, most_files}
use Rattle.rv_link_laws.specs.Moves.{Move, moves, new_offset}
use Rattle.rv_link_laws.specs.Layout.{object_section}
use Rattle.rv_shorten.specs.declared.object.ShortObject.{ShortObject}
use Rattle.rv_cut_laws.specs.Cutting.{cut_row_of}
use Rattle.rv_shorten.specs.View.{short_object_of, moves_by_section as cuts_of}
use Rattle.rv_relax.specs.Kept.{moves_of}
use Rattle.rv_relax.proofs.RisingLemmas.{plan_rises}
use Rattle.rv_placement.specs.declared.placement.Placement.{Placement}
use Rattle.rv_placement.specs.Placement.{starts_of, IsPlacement}
use Rattle.rv_placement.proofs.FoundLemmas.{in_object, is_placed, start_is}
use Rattle.rv_placement.proofs.MapRowsLemmas.{row_stands}

-- ---- lists

all_inserted : (P : Row → Type 0) (r : Row) (qs : List Row) → P r → AllByRecursion P qs → AllByRecursion P (inserted_row r qs)
all_inserted P r [] one all = (one, tt)
all_inserted P r (q ∷ qs) one all = by (nat_le r.ordinal q.ordinal) (all_inserted P r qs one all.1)
  where
    by : (b : Bool) → AllByRecursion P (inserted_row r qs) → AllByRecursion P (if b then r ∷ q ∷ qs else q ∷ inserted_row r qs)
    by true more = (one, all)
    by false more = (all.0, more)

all_ordered : (P : Row → Type 0) (rs : List Row) → AllByRecursion P rs → AllByRecursion P (by_ordinal rs)
all_ordered P [] all = tt
all_ordered P (r ∷ rs) all = all_inserted P r (by_ordinal rs) all.0 (all_ordered P rs all.1)

-- ---- a row

abbrev IsNumbered : Row → Type 0
IsNumbered r = (r.line < 2 ^ 64) × (r.ordinal < 2 ^ 64) × (r.instructions < 2 ^ 64)

is_numbered : (r : Row) → is_counted r ≡ true → IsNumbered r
is_numbered r h =
    let widths = counted_widths r h in
    let low = widths.line in
    let first = widths.ordinal in
    let many = widths.instructions in
    (omega (arith, low), omega (arith, first), omega (arith, many))

-- the rows of an object whose calls are cut
cut_numbered : (mss : List (List Move)) (rows : List Row) → are_counted rows ≡ true → AllByRecursion IsNumbered (map (cut_row_of mss) rows)
cut_numbered mss [] h = tt
cut_numbered mss (r ∷ rows) h =
    let both = and_parts (is_counted r) (are_counted rows) h in
    let (line, ordinal, many) = is_numbered r both.0 in
    ((line, ordinal, omega (arith, many)), cut_numbered mss rows both.1)

module _ (os : List Object) (bounds : Ground) (p : Placement) (is : IsPlacement os bounds p) where
  row_known : (file : ℕ) (o : Object) → slice_get os file ≡ Some o → file < most_files → (r : Row) → is_row_in r (slice_get o.sections r.section) ≡ true → IsNumbered r
      → IsRow (row_in (starts_of p) (suc file) o r)
  row_known file o at few r lies numbered =
      let (s, there, within) = row_stands r (slice_get o.sections r.section) lies in
      let stands : object_section os file r.section ≡ Some s = in_object os file r.section o at ∙ there in
      let (q, found) = is_placed os bounds p is file r.section s stands in
      let low = is.laid.low file r.section s stands in
      let planned : moves_of q.plan.now ≡ moves q.start s = is.planned file r.section s q stands found in
      let same : file + 1 ≡ suc file = omega arith in
      let begins : q.start ≡ starts_of p (suc file) r.section = sym (start_is p file r.section q (sym found)) ∙ ap (λ n. starts_of p n r.section) same in
      let row_is : map_row (suc file) q.start (moves_of q.plan.now) r ≡ row_in (starts_of p) (suc file) o r =
      ap (λ ms. map_row (suc file) q.start ms r) planned
      ∙ ap (λ x. map_row (suc file) q.start (moves_at q.start x) r) (sym there)
      ∙ ap (λ n. map_row (suc file) n (moves_at n (slice_get o.sections r.section)) r) begins in
      let size = size_of s.contents in
      let new = new_offset (moves_of q.plan.now) in
      let first : new r.offset ≤ new size = plan_rises q.plan.now r.offset size (omega (arith, within)) in
      let last : new (r.offset + r.bytes) ≤ new size = plan_rises q.plan.now (r.offset + r.bytes) size within in
      let ends : q.start + new size < 2 ^ 64 = subst (λ ms. q.start + new_offset ms size < 2 ^ 64) (sym planned) (subst (λ n. n + new_offset (moves n s) size < 2 ^ 64) (start_is p file r.section q (sym found)) low.1) in
      let many : file < 1024 = few in
      let known : IsRow (map_row (suc file) q.start (moves_of q.plan.now) r) = (
        omega (arith, many),
        numbered.0,
        numbered.1,
        omega (arith, first, ends),
        omega (arith, last, ends),
        omega (arith, numbered.2),
      ) in
      subst IsRow row_is known

  rows_known_in : (file : ℕ) (o : Object) → slice_get os file ≡ Some o → file < most_files → (rs : List Row) → list_all (λ r. is_row_in r (slice_get o.sections r.section)) rs ≡ true → AllByRecursion IsNumbered rs
      → AllByRecursion (λ r. IsRow (row_in (starts_of p) (suc file) o r)) rs
  rows_known_in file o at few [] lie numbered = tt
  rows_known_in file o at few (r ∷ rs) lie numbered =
      let parts = and_parts (is_row_in r (slice_get o.sections r.section)) (list_all (λ r. is_row_in r (slice_get o.sections r.section)) rs) lie in
      (row_known file o at few r parts.0 numbered.0, rows_known_in file o at few rs parts.1 numbered.1)

  -- those of the files from one on
  rows_known_from : (file : ℕ) (xs : List ShortObject) → ((k : ℕ) (o : Object) → slice_get (map short_object_of xs) k ≡ Some o → slice_get os (file + k) ≡ Some o) → length os ≤ most_files
      → AllByRecursion IsRow (rows_of (starts_of p) (suc file) (map short_object_of xs))
  rows_known_from file [] there few = tt
  rows_known_from file (x ∷ xs) there few =
      let o = short_object_of x in
      let same : file ≡ file + 0 = omega arith in
      let at : slice_get os file ≡ Some o = ap (λ n. slice_get os n) same ∙ there 0 o refl in
      let inside : file < most_files = omega (arith, slice_get_within os file o at, few) in
      let mine = rows_known_in file o at inside o.rows x.lie (cut_numbered (cuts_of x) x.whole.now.rows.items x.whole.now.counted) in
      each_append IsRow (map (row_in (starts_of p) (suc file) o) (by_ordinal o.rows)) (rows_of (starts_of p) (suc (suc file)) (map short_object_of xs))
      (each_mapped IsRow (row_in (starts_of p) (suc file) o) (by_ordinal o.rows) (all_ordered (λ r. IsRow (row_in (starts_of p) (suc file) o r)) o.rows mine))
      (rows_known_from (suc file) xs (λ k q e. let next : suc file + k ≡ file + suc k = omega arith in ap (λ n. slice_get os n) next ∙ there (suc k) q e) few)

pub rows_known : (objects : List ShortObject) (bounds : Ground) (p : Placement) → IsPlacement (map short_object_of objects) bounds p → length (map short_object_of objects) ≤ most_files
    → AllByRecursion IsRow (rows_of (starts_of p) 1 (map short_object_of objects))
rows_known objects bounds p is few =
    rows_known_from (map short_object_of objects) bounds p is 0 objects (λ k o e. let plain : 0 + k ≡ k = omega arith in ap (λ n. slice_get (map short_object_of objects) n) plain ∙ e) few
