-- What is left of a listing whose text is made row by row.

use Rattle.std.specs.Prelude.{ℕ, ◌-◌, List, length, drop, flat_map, map}
use Rattle.rv_isa_laws.specs.Reader.{Reader}
use Rattle.rv_isa_laws.specs.Word.{Spells}
use Rattle.rv_parcel.specs.Parcel.{StandsFor}
use Rattle.rv_image.specs.SegmentView.{segment_of}
use Rattle.rv_disasm.specs.declared.listed.ListedRows.{ListedRows}
use Rattle.rv_listing_laws.specs.Listing.{row_text}

-- the text of the rows that have not been added
abbrev pub listing_left : Reader Spells StandsFor → ListedRows → List ℕ
listing_left reader listed =
    flat_map (row_text reader (map segment_of listed.segments.now))
    (drop listed.added listed.rows.items)

-- and how many they are
abbrev pub rows_left : ListedRows → ℕ
rows_left listed = length listed.rows.items - listed.added
