-- Rows of objects of the code stand in sections that have addresses.

use Rattle.std.proofs.Common.{◌≡◌, ◌+◌, true, nat_le, List, [], ◌∷◌, Option, Some, None}
use Rattle.std.specs.List.{AllByRecursion, list_all, slice_get}
use Rattle.std.proofs.lemmas.Bool.{and_parts}
use Rattle.rv_list_laws.proofs.EachLemmas.{each_weaker}
use Rattle.rv_object_laws.specs.declared.row.Row.{Row}
use Rattle.rv_object_laws.specs.Object.{Section, Object, size_of}
use Rattle.rv_object_laws.specs.Valid.{is_row_in, are_rows}
use Rattle.rv_link_laws.specs.Undefined.{is_loaded_at}
use Rattle.rv_unique_theorems.specs.Asked.{HasPlacedRows, HavePlacedRows, IsSound}

row_loaded : (r : Row) (f : Option Section) → is_row_in r f ≡ true → is_loaded_at f ≡ true
row_loaded r None e = absurd (cc)
row_loaded r (Some s) e = (and_parts s.loaded (nat_le (r.offset + r.bytes) (size_of s.contents)) e).0

rows_loaded : (sections : List Section) (rs : List Row) → are_rows sections rs ≡ true → AllByRecursion (λ r. is_loaded_at (slice_get sections r.section) ≡ true) rs
rows_loaded sections [] e = tt
rows_loaded sections (r ∷ rs) e =
    let both = and_parts (is_row_in r (slice_get sections r.section)) (list_all (λ q. is_row_in q (slice_get sections q.section)) rs) e in
    (row_loaded r (slice_get sections r.section) both.0, rows_loaded sections rs both.1)

pub rows_placed : (os : List Object) → AllByRecursion IsSound os → HavePlacedRows os
rows_placed os = each_weaker IsSound HasPlacedRows (λ o sound. rows_loaded o.sections o.rows sound.rows) os
