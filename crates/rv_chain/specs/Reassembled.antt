-- What a build makes of a source that is a raw listing.

use Rattle.std.specs.Prelude.{◌≡◌, ◌⊎◌, ◌<◌, ℕ, Bool, List, [], ◌∷◌, length, filter, None}
use Rattle.rv_expression_laws.specs.Codes.{limit}
use Rattle.rv_fault.specs.declared.source_fault.SourceFault.TheVariants.{At}
use Rattle.rv_fault.specs.SourceFault.{source_fault_number}
use Rattle.rv_parse_laws.specs.Reading.{longest_source}
use Rattle.rv_image_laws.specs.Segment.{Segment}
use Rattle.rv_image_laws.specs.Image.{Image}
use Rattle.rv_image_laws.specs.ImageOf.{ImageOf}
use Rattle.rv_image_laws.specs.FirstFault.{first_fault}
use Rattle.rv_listing_laws.specs.Raw.{IsRawListing, is_executable}
use Rattle.rv_fault.specs.declared.fault.Fault.{Fault}
use Rattle.rv_fault.specs.declared.fault.Fault.TheVariants.{Source, Memory}
use Rattle.rv_link_laws.specs.Ground.{usual}
use Rattle.rv_chain.specs.Refusals.{IsRefusedFor}

-- an executable has an image that begins at this entry, and its one segment of code has these bytes
-- at this address
pub record HasCode (executable : List ℕ) (entry address : ℕ) (bytes : List ℕ) : Type 0 where
  pub image : Image
  pub loads : ImageOf executable image
  pub begins : image.entry ≡ entry
  pub segment : Segment
  pub alone : filter is_executable image.segments ≡ segment ∷ []
  pub stands : segment.address ≡ address
  pub same : segment.bytes ≡ bytes

-- where the one text is the raw listing of an image, and is built for the address of the segment
-- that it lists, the executable has the code of that image, and its entry
abbrev pub Reassembles : List (List ℕ) → ℕ → List ℕ → Type 0
Reassembles texts start executable =
    (image : Image) (text : List ℕ) (listing : IsRawListing image text)
    → texts ≡ text ∷ [] → start ≡ listing.segment.address
    → HasCode executable image.entry start listing.segment.bytes

-- the one source is longer than a source may be, which is a fault at line 0
abbrev pub IsTooLongFor : List ℕ → Fault → Type 0
IsTooLongFor text (Source number (At code line)) =
    (longest_source < length text) × (number ≡ 1) × (source_fault_number code ≡ limit) × (line ≡ 0)
IsTooLongFor text fault = ⊥

-- where it is the raw listing of what a file without a fault is loaded as, what refuses it is its
-- length, or want of memory
abbrev pub RawListingsAreAccepted : Type 0
RawListingsAreAccepted =
    (start : ℕ) (relax gc : Bool) (fault : Fault) (file : List ℕ) (image : Image) (text : List ℕ)
    (listing : IsRawListing image text)
    → first_fault file ≡ None → ImageOf file image → start ≡ listing.segment.address
    → IsRefusedFor (text ∷ []) (usual start) relax gc fault
    → (fault ≡ Memory) ⊎ IsTooLongFor text fault
