-- What is built of a raw listing is the code that it lists: the same bytes from the same address
-- on, begun at the same place.

use Rattle.std.specs.Prelude.{◌≡◌, ℕ, Bool, List, [], ◌∷◌}
use Rattle.rv_statement_laws.specs.Statement.{Statement}
use Rattle.rv_image_laws.specs.Image.{Image}
use Rattle.rv_image_laws.specs.Linked.{Linked}
use Rattle.rv_listing_laws.specs.Raw.{IsRawListing}
use Rattle.rv_chain_laws.specs.Contents.{IsLinked}
use Rattle.rv_chain_laws.specs.Headline.{AllRead}

-- what is linked of the text alone from the address of the segment that it lists, whether relaxed
-- or not and with which sections, has the bytes of that segment and runs from the image's entry
abbrev pub RawListingsReassemble : Type 0
RawListingsReassemble =
    (image : Image) (text : List ℕ) (start : ℕ) (relax gc : Bool) (sources : List (List Statement))
    (l : Linked) (listing : IsRawListing image text)
    → start ≡ listing.segment.address → AllRead (text ∷ []) sources
    → IsLinked sources start relax gc l
    → (l.text ≡ listing.segment.bytes) × (l.map.entry ≡ image.entry)
