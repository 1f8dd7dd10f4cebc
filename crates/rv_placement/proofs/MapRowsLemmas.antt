-- The rows of objects, as they have moved.

use Rattle.std.proofs.Common.{zero, suc, ◌≡◌, ◌<◌, ◌≤◌, ◌+◌, ◌^◌, ℕ, true, Option, Some, None, List, [], ◌∷◌, ◌++◌, length, drop, get_or, map, nat_le, refl, sym, ap, subst, ◌∙◌, append_assoc, arith}
use Rattle.std.specs.List.{slice_get}
use Rattle.std.proofs.lemmas.Bool.{leb-true, and_parts}
use Rattle.std.proofs.lemmas.List.{get_or_default}
use Rattle.rv_list_laws.proofs.TakeDropLemmas.{drop_read}
use Rattle.rv_list_laws.proofs.TestsLemmas.{all_map_read}
use Rattle.rv_map_laws.specs.declared.map.Row.{Row as MapRow}
use Rattle.rv_object_laws.specs.declared.row.Row.{Row}
use Rattle.rv_object_laws.specs.Object.{Section, Object, size_of}
use Rattle.rv_object_laws.specs.Valid.{is_row_in, are_rows}
use Rattle.rv_link_laws.specs.declared.bounds.Ground.{Ground}
use Rattle.rv_link_laws.specs.IsLinkOf.{by_ordinal, map_row, moves_at, row_in, rows_of}
use Rattle.rv_link_laws.specs.Moves.{new_offset, moves}
use Rattle.rv_link_laws.specs.Layout.{object_section}
use Rattle.rv_shorten.specs.declared.object.ShortObject.{ShortObject}
use Rattle.rv_shorten.specs.View.{short_object_of}
use Rattle.rv_relax.specs.Kept.{moves_of}
use Rattle.rv_relax.proofs.RisingLemmas.{plan_rises}
use Rattle.rv_placement.specs.declared.placement.PlacedSection.{PlacedSection}
use Rattle.rv_placement.specs.declared.placement.Placement.{Placement}
use Rattle.rv_placement.specs.Moved.{moved_row, moved_rows}
use Rattle.rv_placement.specs.Placement.{starts_of, placed_at, IsPlacement}
use Rattle.rv_placement.proofs.FoundLemmas.{in_object, not_placed, start_is}

pub row_stands : (r : Row) (o : Option Section) → is_row_in r o ≡ true → (s : Section) × (o ≡ Some s) × (r.offset + r.bytes ≤ size_of s.contents)
row_stands r None h = absurd (cc)
row_stands r (Some s) h = (s, refl, leb-true (r.offset + r.bytes) (size_of s.contents) (and_parts s.loaded (nat_le (r.offset + r.bytes) (size_of s.contents)) h).1)

module _ (os : List Object) (bounds : Ground) (p : Placement) (is : IsPlacement os bounds p) (file : ℕ) (o : ShortObject) (at : slice_get os file ≡ Some (short_object_of o)) (rows : List Row)
    (lie : are_rows (short_object_of o).sections (moved_rows o rows) ≡ true) (i : ℕ) (d : Row) (inside : i < length rows) where
  abbrev r : Row
  r = get_or rows i d

  abbrev moved : Row
  moved = moved_row o r

  here : r ≡ get_or rows i r
  here = get_or_default rows i d r inside

  stands : (s : Section) × (slice_get (short_object_of o).sections r.section ≡ Some s) × (moved.offset + moved.bytes ≤ size_of s.contents)
  stands = row_stands moved (slice_get (short_object_of o).sections r.section) (all_map_read (λ r. is_row_in r (slice_get (short_object_of o).sections r.section)) (moved_row o) rows i r lie inside here)

  there : object_section os file r.section ≡ Some stands.0
  there = in_object os file r.section (short_object_of o) at ∙ stands.1

  -- each row has its section's place
  pub row_placed : None ≡ placed_at p file r.section → ⊥
  row_placed none = not_placed os bounds p is file r.section stands.0 there (sym none)

  abbrev IsLow : PlacedSection → Row → Type 0
  IsLow q row = (row.offset + row.bytes < 2 ^ 64) × (q.start + new_offset (moves_of q.plan.now) row.offset < 2 ^ 64)

  row_low : (q : PlacedSection) → Some q ≡ placed_at p file r.section → IsLow q moved
  row_low q found =
      let s = stands.0 in
      let low = is.laid.low file r.section s there in
      let begins = subst (λ n. n + new_offset (moves n s) (size_of s.contents) < 2 ^ 64) (start_is p file r.section q found) low.1 in
      let within = stands.2 in
      let before = plan_rises q.plan.now moved.offset (size_of s.contents) (omega (arith, within)) in
      let same : new_offset (moves_of q.plan.now) (size_of s.contents) ≡ new_offset (moves q.start s) (size_of s.contents) = ap (λ ms. new_offset ms (size_of s.contents)) (is.planned file r.section s q there (sym found)) in
      (omega (arith, low.0, within), omega (arith, begins, before, same))

  row_is : (q : PlacedSection) → Some q ≡ placed_at p file r.section → map_row (file + 1) q.start (moves_of q.plan.now) moved ≡ row_in (starts_of p) (file + 1) (short_object_of o) moved
  row_is q found =
      ap (λ ms. map_row (file + 1) q.start ms moved) (is.planned file r.section stands.0 q there (sym found))
      ∙ ap (λ s. map_row (file + 1) q.start (moves_at q.start s) moved) (sym stands.1)
      ∙ ap (λ n. map_row (file + 1) n (moves_at n (slice_get (short_object_of o).sections r.section)) moved) (sym (start_is p file r.section q found))

  -- one row more
  pub row_more : (q : PlacedSection) (row : Row) (m : MapRow) (old new all : List MapRow) → Some q ≡ placed_at p file r.section → row ≡ moved
      → (row.offset + row.bytes < 2 ^ 64 → q.start + new_offset (moves_of q.plan.now) row.offset < 2 ^ 64 → m ≡ map_row (file + 1) q.start (moves_of q.plan.now) row) → new ≡ old ++ (m ∷ [])
      → old ++ map (row_in (starts_of p) (file + 1) (short_object_of o)) (moved_rows o (drop i rows)) ≡ all
      → new ++ map (row_in (starts_of p) (file + 1) (short_object_of o)) (moved_rows o (drop (i + 1) rows)) ≡ all
  row_more q row m old new all found same made pushed h =
      let rest = map (row_in (starts_of p) (file + 1) (short_object_of o)) (moved_rows o (drop (i + 1) rows)) in
      let low : IsLow q row = subst (IsLow q) (sym same) (row_low q found) in
      let one : m ≡ row_in (starts_of p) (file + 1) (short_object_of o) moved = made low.0 low.1 ∙ ap (map_row (file + 1) q.start (moves_of q.plan.now)) same ∙ row_is q found in
      ap (λ l. l ++ rest) pushed ∙ append_assoc old (m ∷ []) rest ∙ ap (λ x. old ++ (x ∷ rest)) one
      ∙ ap (λ l. old ++ map (row_in (starts_of p) (file + 1) (short_object_of o)) (moved_rows o l)) (sym (drop_read rows i r inside here)) ∙ h

-- one file more
pub file_more : (p : Placement) (objects : List ShortObject) (i : ℕ) (o : ShortObject) (old new all : List MapRow) → i < length objects → o ≡ get_or objects i o
    → new ≡ old ++ map (row_in (starts_of p) (i + 1) (short_object_of o)) (by_ordinal (short_object_of o).rows) → old ++ rows_of (starts_of p) (i + 1) (map short_object_of (drop i objects)) ≡ all
    → new ++ rows_of (starts_of p) (i + 1 + 1) (map short_object_of (drop (i + 1) objects)) ≡ all
file_more p objects i o old new all inside here pushed h =
    let mine = map (row_in (starts_of p) (i + 1) (short_object_of o)) (by_ordinal (short_object_of o).rows) in
    let rest = map short_object_of (drop (i + 1) objects) in
    ap (λ l. l ++ rows_of (starts_of p) (i + 1 + 1) rest) pushed ∙ append_assoc old mine (rows_of (starts_of p) (i + 1 + 1) rest)
    ∙ ap (λ n. old ++ (mine ++ rows_of (starts_of p) n rest)) (let e : i + 1 + 1 ≡ suc (i + 1) = omega arith in e)
    ∙ ap (λ l. old ++ rows_of (starts_of p) (i + 1) (map short_object_of l)) (sym (drop_read objects i o inside here)) ∙ h

pub object_here : (objects : List ShortObject) (i : ℕ) (o : ShortObject) → i < length objects → o ≡ get_or objects i o → slice_get (map short_object_of objects) i ≡ Some (short_object_of o)
object_here [] i o inside here = absurd (omega arith)
object_here (x ∷ objects) zero o inside here = ap (λ y. Some (short_object_of y)) (sym here)
object_here (x ∷ objects) (suc i) o inside here = object_here objects i o (omega arith) here
