-- Whether a map is one of an image: its regions are the image's segments, its entry is the image's
-- entry, and the bytes of each statement of code spell as many instructions as its row says.

use Rattle.std.specs.Prelude.{ℕ, zero, suc, ◌-◌, ◌==◌, nat_le, Bool, true, false, ◌&&◌, if◌then◌else◌, List, [], ◌∷◌, length, drop, Option, Some, None}
use Rattle.rv_isa.specs.declared.instruction.Inst.{Inst}
use Rattle.rv_isa_laws.specs.Reader.{Reader}
use Rattle.rv_isa_laws.specs.Word.{Spells}
use Rattle.rv_parcel.specs.Parcel.{StandsFor}
use Rattle.rv_map_laws.specs.declared.map.Row.{Row}
use Rattle.rv_map_laws.specs.Map.{Map}
use Rattle.rv_map.specs.Reading.{◌>>=◌}
use Rattle.rv_image_laws.specs.Segment.{Segment}
use Rattle.rv_image_laws.specs.Image.{Image}
use Rattle.rv_listing_laws.specs.Lines.{front}
use Rattle.rv_listing_laws.specs.Listing.{row_bytes}

-- the segments after the first one, where that has so many bytes at an address
abbrev pub after_first : (start size : ℕ) → List Segment → Option (List Segment)
after_first start size [] = None
after_first start size (s ∷ ss) =
    if s.address == start && length s.bytes == size then Some ss else None

-- the segments after that of a region, which has one where it has bytes
unfoldable pub after_region : (start end : ℕ) → List Segment → Option (List Segment)
after_region start end ss =
    if nat_le end start then Some ss else after_first start (end - start) ss

-- the segments after those of the regions: text, constants, and variables with the zeroed ones
unfoldable pub after_regions : Map → List Segment → Option (List Segment)
after_regions m ss = do
  rest ← after_region m.text.start m.text.end ss
  rest ← after_region m.rodata.start m.rodata.end rest
  after_region m.data.start m.bss.end rest

abbrev pub is_end : Option (List Segment) → Bool
is_end None = false
is_end (Some []) = true
is_end (Some (s ∷ ss)) = false

-- whether the bytes behind the instruction at their front pass a test
abbrev pub behind : List ℕ → Option (Inst × ℕ) → (List ℕ → Bool) → Bool
behind bytes None test = false
behind bytes (Some (i, count)) test = test (drop count bytes)

-- whether bytes are those of so many instructions, one behind another
unfoldable pub spell : Reader Spells StandsFor → ℕ → List ℕ → Bool
spell reader zero bytes = length bytes == 0
spell reader (suc n) bytes = behind bytes (front reader bytes) (spell reader n)

-- the row of a statement without code fits any bytes
abbrev pub row_fits : Reader Spells StandsFor → List Segment → Row → Bool
row_fits reader ss row =
    if row.instructions == 0 then true
    else spell reader row.instructions (row_bytes ss row)

-- the bytes that a row claims for code
abbrev pub claimed_bytes : Row → ℕ
claimed_bytes row = if row.instructions == 0 then 0 else row.bytes

-- each row fits, and rows claim no more bytes for code than are left
unfoldable pub rows_fit : Reader Spells StandsFor → List Segment → (remaining : ℕ) → List Row → Bool
rows_fit reader ss remaining [] = true
rows_fit reader ss remaining (row ∷ rows) =
    nat_le (claimed_bytes row) remaining && row_fits reader ss row
    && rows_fit reader ss (remaining - claimed_bytes row) rows

abbrev pub fits : Reader Spells StandsFor → Map → Image → Bool
fits reader m image =
    m.entry == image.entry && is_end (after_regions m image.segments)
    && rows_fit reader image.segments (m.text.end - m.text.start) m.rows
