-- The listing of an executable: the statements of its map that have code, and the instructions that
-- stand there.

use Rattle.std.specs.Prelude.{◌≡◌, ℕ, ◌+◌, ◌-◌, Bool, ◌&&◌, nat_le, List, [], ◌∷◌, ◌++◌, length, take, drop, flat_map, codes, decimal, Option, Some, None}
use Rattle.std.specs.List.{find}
use Rattle.rv_isa_laws.specs.Memory.{Execute}
use Rattle.rv_isa_laws.specs.Reader.{Reader}
use Rattle.rv_isa_laws.specs.Word.{Spells}
use Rattle.rv_parcel.specs.Parcel.{StandsFor}
use Rattle.rv_map_laws.specs.declared.map.Row.{Row}
use Rattle.rv_map_laws.specs.Map.{Map}
use Rattle.rv_image_laws.specs.Segment.{Segment}
use Rattle.rv_image_laws.specs.Image.{Image}
use Rattle.rv_image_laws.specs.Memory.{gives_right}
use Rattle.rv_listing_laws.specs.Lines.{lines}
use Rattle.rv_listing_laws.specs.Order.{IsInOrder}

-- whether the segment can be executed and has all bytes of the row
abbrev pub holds : Row → Segment → Bool
holds row s =
    gives_right s.flags Execute && nat_le s.address row.address
    && nat_le (row.address + row.bytes) (s.address + length s.bytes)

-- the row's bytes in the segment that holds them; none where none does
abbrev pub bytes_in : Row → Option Segment → List ℕ
bytes_in row None = []
bytes_in row (Some s) = take row.bytes (drop (row.address - s.address) s.bytes)

abbrev pub row_bytes : List Segment → Row → List ℕ
row_bytes segments row = bytes_in row (find (holds row) segments)

-- which statement it is: `@ FILE LINE ORDINAL`
abbrev pub statement : Row → List ℕ
statement row =
    codes "@ " ++ decimal row.file ++ 32 ∷ decimal row.line ++ 32 ∷ decimal row.ordinal ++ 10 ∷ []

-- the statement and its instructions, where it has bytes of code
abbrev pub entry : Reader Spells StandsFor → Row → List ℕ → List ℕ
entry reader row [] = []
entry reader row (b ∷ bytes) = statement row ++ lines reader 0 row.address (b ∷ bytes)

abbrev pub row_text : Reader Spells StandsFor → List Segment → Row → List ℕ
row_text reader segments row = entry reader row (row_bytes segments row)

-- the text of the map's rows, in their order
pub record IsListing (reader : Reader Spells StandsFor) (image : Image) (m : Map) (text : List ℕ)
    : Type 0 where
  pub rows : List Row
  pub order : IsInOrder m.rows rows
  pub shows : text ≡ flat_map (row_text reader image.segments) rows
