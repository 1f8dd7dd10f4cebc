use Rattle.std.proofs.Common.{◌++◌}
use Rattle.rv_isa_laws.specs.Word.{Spells}
use Rattle.rv_parcel.specs.Parcel.{StandsFor}
use Rattle.rv_isa_laws.specs.Reader.{Reader}
use Rattle.rv_map.specs.Views.{map_of}
use Rattle.rv_image.specs.Views.{image_of}
use Rattle.rv_listing_laws.specs.Listing.{IsListing}
use Rattle.rv_disasm.specs.ListingLeft.{listing_left, rows_left}
use Rattle.rv_disasm.proofs.listed.listing.Given as goal

abbrev pub invariant-loop-text : goal.invariant-loop-text
invariant-loop-text l =
    (reader : Reader Spells StandsFor) → IsListing reader (image_of l.image) (map_of l.map) (l.text.items ++ listing_left reader l.rows)

abbrev pub decreases-loop-text : goal.decreases-loop-text
decreases-loop-text l = rows_left l.rows
