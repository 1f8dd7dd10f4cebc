-- What the types of an object keep, and the widths of its numbers, as one fact of the object.

use Rattle.std.proofs.Common.{◌≡◌, ◌<◌, ◌^◌, true, List, [], ◌∷◌, map}
use Rattle.std.proofs.lemmas.Bool.{and_parts}
use Rattle.std.specs.List.{AllByRecursion}
use Rattle.rv_object_types.specs.declared.object.Object.{Object}
use Rattle.rv_object_types.specs.declared.section.Section.{Section}
use Rattle.rv_object_laws.specs.declared.row.Row.{Row}
use Rattle.rv_object_laws.specs.Object.{size_of}
use Rattle.rv_object_types.specs.Sections.{section_of}
use Rattle.rv_object_laws.specs.Valid.{is_counted, are_counted}
use Rattle.rv_object_types.specs.View.{object_of}
use Rattle.rv_object_laws.proofs.CountedLemmas.{counted_widths}
use Rattle.rv_object_file_laws.specs.Known.{IsRelocation, IsSection, IsRow, IsObject}
use Rattle.rv_object_writer.specs.Pieces.{HaveKnownNumbers}

sections_known : (ss : List Section) → AllByRecursion (λ s. size_of s.contents < 2 ^ 64) (map section_of ss)
    → AllByRecursion (λ s. AllByRecursion IsRelocation s.relocations) (map section_of ss) → AllByRecursion IsSection (map section_of ss)
sections_known [] sizes fields = tt
sections_known (s ∷ ss) (size, sizes) (own, fields) = (
  record {
    named = s.named;
    kept = s.kept;
    aligned = s.aligned;
    even = s.even;
    alone = s.alone;
    inside = s.inside;
    paddings = s.paddings;
    size = size;
    fields = own;
  },
  sections_known ss sizes fields,
)

row_known : (r : Row) → is_counted r ≡ true → IsRow r
row_known r h =
    let widths = counted_widths r h in
    record { in_line = widths.line; number = widths.ordinal; place = widths.offset; size = widths.bytes; count = widths.instructions }

rows_known : (rs : List Row) → are_counted rs ≡ true → AllByRecursion IsRow rs
rows_known [] h = tt
rows_known (r ∷ rs) h = let both = and_parts (is_counted r) (are_counted rs) h in (row_known r both.0, rows_known rs both.1)

pub object_known : (o : Object) → AllByRecursion (λ s. size_of s.contents < 2 ^ 64) (object_of o).sections → HaveKnownNumbers (object_of o)
    → IsObject (object_of o)
object_known o sizes numbers = record {
  all_sections = sections_known o.sections.items sizes numbers.fields;
  all_symbols = numbers.all_symbols;
  all_rows = rows_known o.rows.items o.counted;
  indexed = o.indexed;
  defined = o.defined;
  lie = o.lie;
}
