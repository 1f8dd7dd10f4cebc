-- What names and rows have by where loaded sections start.

use Rattle.std.proofs.Common.{◌≡◌, ℕ, suc, ◌+◌, ◌%◌, ◌^◌, Bool, true, false, List, [], ◌∷◌, ◌++◌, map, refl, ap, ◌∙◌, Option, Some, None}
use Rattle.std.specs.Prelude.{option_and_then, nat_le, codes, if◌then◌else◌}
use Rattle.std.specs.List.{AllByRecursion, slice_get}
use Rattle.rv_list_laws.proofs.EachLemmas.{flat_map_same}
use Rattle.rv_map_laws.specs.Globals.{shown}
use Rattle.rv_object_laws.specs.declared.row.Row.{Row}
use Rattle.rv_object_laws.specs.declared.symbol.Definition.{Definition}
use Rattle.rv_object_laws.specs.declared.symbol.Definition.TheVariants as definitions
use Rattle.rv_object_laws.specs.Object.{Section, Object}
use Rattle.rv_link_laws.specs.Moves.{moves, new_offset}
use Rattle.rv_link_laws.specs.Inputs.{Starts}
use Rattle.rv_link_laws.specs.Names.{Export, offset_address, defined_address, chosen, chosen_exports, export_address, globals_of, begins_run, run_start, entry_of}
use Rattle.rv_link_laws.specs.IsLinkOf.{moves_at, map_row, row_in, inserted_row, by_ordinal, rows_of}
use Rattle.rv_link_laws.specs.Undefined.{is_loaded_at}
use Rattle.rv_unique_theorems.specs.Asked.{HavePlacedRows}
use Rattle.rv_unique_theorems.proofs.ExportsLemmas.{OfExport, of_chosen, all_chosen}
use Rattle.rv_unique_theorems.proofs.AgreedLemmas.{IsAgreed, AreAgreed}

module _ (s t : Starts) (file : ℕ) (o : Object) (agreed : IsAgreed s t file o) where
  pub defined_same : (d : Definition) → defined_address (s file) o d ≡ defined_address (t file) o d
  defined_same definitions.Undefined = refl
  defined_same (definitions.Absolute n) = refl
  defined_same (definitions.Skipped n) = refl
  defined_same (definitions.InSection section offset) = go (slice_get o.sections section) refl
    where
      by : (x : Section) → slice_get o.sections section ≡ Some x → (b : Bool) → x.loaded ≡ b
          → (if b then Some ((s file section + new_offset (moves (s file section) x) offset) % 2 ^ 64) else None)
          ≡ (if b then Some ((t file section + new_offset (moves (t file section) x) offset) % 2 ^ 64) else None)
      by x at true loaded = ap (λ n. Some ((n + new_offset (moves n x) offset) % 2 ^ 64)) (agreed section x at loaded)
      by x at false loaded = refl

      go : (f : Option Section) → slice_get o.sections section ≡ f → offset_address (s file section) offset f ≡ offset_address (t file section) offset f
      go None at = refl
      go (Some x) at = by x at x.loaded refl

  row_same : (r : Row) → is_loaded_at (slice_get o.sections r.section) ≡ true → row_in s file o r ≡ row_in t file o r
  row_same r loaded = go (slice_get o.sections r.section) refl loaded
    where
      go : (f : Option Section) → slice_get o.sections r.section ≡ f → is_loaded_at f ≡ true → map_row file (s file r.section) (moves_at (s file r.section) f) r ≡ map_row file (t file r.section) (moves_at (t file r.section) f) r
      go None at e = absurd (cc)
      go (Some x) at e = ap (λ n. map_row file n (moves n x) r) (agreed r.section x at e)

  rows_same : (rs : List Row) → AllByRecursion (λ r. is_loaded_at (slice_get o.sections r.section) ≡ true) rs → map (row_in s file o) rs ≡ map (row_in t file o) rs
  rows_same [] h = refl
  rows_same (r ∷ rs) (loaded, h) = ap (λ q. q ∷ map (row_in s file o) rs) (row_same r loaded) ∙ ap (λ l. row_in t file o r ∷ l) (rows_same rs h)

-- what holds of rows holds of them in their order
module _ (P : Row → Type 0) where
  all_inserted : (r : Row) (rs : List Row) → P r → AllByRecursion P rs → AllByRecursion P (inserted_row r rs)
  all_inserted r [] one h = (one, tt)
  all_inserted r (q ∷ qs) one (own, h) = go (nat_le r.ordinal q.ordinal) (all_inserted r qs one h)
    where
      go : (b : Bool) → AllByRecursion P (inserted_row r qs) → AllByRecursion P (if b then r ∷ q ∷ qs else q ∷ inserted_row r qs)
      go true more = (one, (own, h))
      go false more = (own, more)

  all_ordered : (rs : List Row) → AllByRecursion P rs → AllByRecursion P (by_ordinal rs)
  all_ordered [] h = tt
  all_ordered (r ∷ rs) (one, h) = all_inserted r (by_ordinal rs) one (all_ordered rs h)

module _ (s t : Starts) where
  export_same : (e : Export) → IsAgreed s t e.file e.object → export_address s e ≡ export_address t e
  export_same e own = defined_same s t e.file e.object own e.symbol.definition

  pub all_globals : (os : List Object) → AreAgreed s t 1 os → globals_of s os ≡ globals_of t os
  all_globals os h =
      flat_map_same (λ (e : Export). shown e.symbol.name (export_address s e)) (λ (e : Export). shown e.symbol.name (export_address t e)) (OfExport (IsAgreed s t))
      (λ e own. ap (shown e.symbol.name) (export_same e own)) (chosen_exports os) (all_chosen (IsAgreed s t) os h)

  pub all_entries : (os : List Object) → AreAgreed s t 1 os → entry_of s os ≡ entry_of t os
  all_entries os h = by (chosen os (codes "_start")) refl
    where
      by : (f : Option Export) → chosen os (codes "_start") ≡ f → option_and_then (run_start s) f ≡ option_and_then (run_start t) f
      by None is = refl
      by (Some e) is = ap (λ a. if begins_run e then a else None) (export_same e (of_chosen (IsAgreed s t) os h (codes "_start") e is))

  pub all_rows : (file : ℕ) (os : List Object) → AreAgreed s t file os → HavePlacedRows os → rows_of s file os ≡ rows_of t file os
  all_rows file [] h placed = refl
  all_rows file (o ∷ os) (own, h) (one, placed) =
      ap (λ l. l ++ rows_of s (suc file) os)
      (rows_same s t file o own (by_ordinal o.rows) (all_ordered (λ r. is_loaded_at (slice_get o.sections r.section) ≡ true) o.rows one))
      ∙ ap (λ l. map (row_in t file o) (by_ordinal o.rows) ++ l) (all_rows (suc file) os h placed)
