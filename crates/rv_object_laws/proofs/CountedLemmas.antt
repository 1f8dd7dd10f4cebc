-- The numbers of rows have the widths of their fields: one by one, and as a test.

use Rattle.std.proofs.Common.{◌≡◌, ◌<◌, ◌^◌, true, ◌&&◌, nat_lt, List, [], ◌∷◌, ◌++◌, refl, ap, ◌∙◌}
use Rattle.std.proofs.lemmas.Bool.{and_from, and_parts, lt-ltb, ltb-true}
use Rattle.std.proofs.lemmas.List.Folds.{list_all-append}
use Rattle.rv_object_laws.specs.declared.row.Row.{Row}
use Rattle.rv_object_laws.specs.Valid.{is_counted, are_counted}

pub row_counted : (r : Row) → r.line < 2 ^ 32 → r.ordinal < 2 ^ 32 → r.section < 2 ^ 32 → r.offset < 2 ^ 64 → r.bytes < 2 ^ 32 → r.instructions < 2 ^ 32 → is_counted r ≡ true
row_counted r line ordinal section offset bytes instructions =
    and_from _ _ (and_from _ _ (and_from _ _ (and_from _ _ (and_from _ _ (lt-ltb r.line (2 ^ 32) line) (lt-ltb r.ordinal (2 ^ 32) ordinal)) (lt-ltb r.section (2 ^ 32) section))
    (lt-ltb r.offset (2 ^ 64) offset)) (lt-ltb r.bytes (2 ^ 32) bytes)) (lt-ltb r.instructions (2 ^ 32) instructions)

-- one more
pub counted_next : (made new : List Row) (r : Row) → are_counted made ≡ true → is_counted r ≡ true → new ≡ made ++ r ∷ [] → are_counted new ≡ true
counted_next made new r all one more =
    ap are_counted more ∙ list_all-append is_counted made (r ∷ []) ∙ and_from (are_counted made) (is_counted r && true) all (and_from (is_counted r) true one refl)

pub record HasWidths (r : Row) : Type 0 where
  pub line : r.line < 2 ^ 32
  pub ordinal : r.ordinal < 2 ^ 32
  pub section : r.section < 2 ^ 32
  pub offset : r.offset < 2 ^ 64
  pub bytes : r.bytes < 2 ^ 32
  pub instructions : r.instructions < 2 ^ 32

pub counted_widths : (r : Row) → is_counted r ≡ true → HasWidths r
counted_widths r h =
    let line = nat_lt r.line (2 ^ 32) in
    let ordinal = nat_lt r.ordinal (2 ^ 32) in
    let section = nat_lt r.section (2 ^ 32) in
    let offset = nat_lt r.offset (2 ^ 64) in
    let bytes = nat_lt r.bytes (2 ^ 32) in
    let five = and_parts (line && ordinal && section && offset && bytes) (nat_lt r.instructions (2 ^ 32)) h in
    let four = and_parts (line && ordinal && section && offset) bytes five.0 in
    let three = and_parts (line && ordinal && section) offset four.0 in
    let two = and_parts (line && ordinal) section three.0 in
    let one = and_parts line ordinal two.0 in
    record {
      line = ltb-true r.line (2 ^ 32) one.0;
      ordinal = ltb-true r.ordinal (2 ^ 32) one.1;
      section = ltb-true r.section (2 ^ 32) two.1;
      offset = ltb-true r.offset (2 ^ 64) three.1;
      bytes = ltb-true r.bytes (2 ^ 32) four.1;
      instructions = ltb-true r.instructions (2 ^ 32) five.1;
    }
