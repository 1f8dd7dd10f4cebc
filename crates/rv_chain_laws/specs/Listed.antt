-- What the listing of a build's executable is.

use Rattle.std.specs.Prelude.{◌≡◌, ◌↔◌, ℕ, List}
use Rattle.rv_isa_laws.specs.Word.{Spells}
use Rattle.rv_parcel.specs.Parcel.{StandsFor}
use Rattle.rv_isa_laws.specs.Reader.{Reader}
use Rattle.rv_statement_laws.specs.Statement.{Statement}
use Rattle.rv_map_laws.specs.Map.{Map}
use Rattle.rv_map_laws.specs.Text.{map_text}
use Rattle.rv_map_laws.specs.Limits.{IsMap}
use Rattle.rv_image_laws.specs.Image.{Image}
use Rattle.rv_image_laws.specs.ImageOf.{ImageOf}
use Rattle.rv_source_laws.specs.Program.{program}
use Rattle.rv_listing_laws.specs.Listing.{IsListing}
use Rattle.rv_chain_laws.specs.Headline.{AllRead}
use Rattle.rv_chain_laws.specs.SourceListing.{IsSourceListing}

-- the listing of the executable, with the map that its text shows, is that of the statements which
-- the texts read as, whatever loads the one and reads the other, and by whatever reading of code.
-- Both have one such text, so what `listing` gives is it
pub record IsListedAs (texts : List (List ℕ)) (executable map_bytes : List ℕ) : Type 0 where
  pub sources : List (List Statement)
  pub read : AllRead texts sources
  pub listed : (image : Image) → ImageOf executable image → (m : Map) → IsMap m →
      map_bytes ≡ map_text m → (reader : Reader Spells StandsFor) (text : List ℕ) →
      IsListing reader image m text ↔ IsSourceListing (program sources m) text
