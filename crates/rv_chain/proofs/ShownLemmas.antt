-- The listing of the executable of a linked program is that of its sources.

use Rattle.std.proofs.Common.{◌≡◌, ℕ, Bool, List, subst, sym, ◌∙◌}
use Rattle.std.specs.Prelude.{◌↔◌}
use Rattle.rv_isa_laws.specs.Word.{Spells}
use Rattle.rv_parcel.specs.Parcel.{StandsFor}
use Rattle.rv_isa_laws.specs.Reader.{Reader}
use Rattle.rv_map_laws.specs.Map.{Map}
use Rattle.rv_map_laws.specs.Limits.{IsMap}
use Rattle.rv_map_laws.specs.Text.{map_text}
use Rattle.rv_map.proofs.WholeLemmas.{one_text}
use Rattle.rv_image_laws.specs.Linked.{Linked, IsLaidOut}
use Rattle.rv_image_laws.specs.Image.{Image}
use Rattle.rv_image_laws.specs.Executable.{exe_of, linked_image}
use Rattle.rv_image_laws.specs.ImageOf.{ImageOf}
use Rattle.rv_image.proofs.LoadedAgainLemmas.{reload_image, one_image}
use Rattle.rv_source_laws.specs.Program.{program}
use Rattle.rv_listing_laws.specs.Listing.{IsListing}
use Rattle.rv_chain_laws.specs.SourceListing.{IsSourceListing}
use Rattle.rv_chain_laws.specs.Building.{IsProgramFrom}
use Rattle.rv_chain_laws.specs.Listed.{IsListedAs}

pub listed_as : (texts : List (List ℕ)) (start : ℕ) (relax gc : Bool) (l : Linked) (exe map_bytes : List ℕ) → IsLaidOut l → IsMap l.map → (of : IsProgramFrom texts start relax gc l)
    → ((reader : Reader Spells StandsFor) (text : List ℕ) → IsListing reader (linked_image l) l.map text ↔ IsSourceListing (program of.sources l.map) text) → exe ≡ exe_of l → map_bytes ≡ map_text l.map → IsListedAs texts exe map_bytes
listed_as texts start relax gc l exe map_bytes laid is_map program_of agrees written shown = record { sources = program_of.sources; read = program_of.read; listed = listed }
  where
    listed : (image : Image) → ImageOf exe image → (m : Map) → IsMap m → map_bytes ≡ map_text m → (reader : Reader Spells StandsFor) (text : List ℕ)
        → IsListing reader image m text ↔ IsSourceListing (program program_of.sources m) text
    listed image loads m is_one shows reader text =
        let same_map : l.map ≡ m = one_text l.map m is_map is_one (sym shown ∙ shows) in
        let loaded : ImageOf exe (linked_image l) = subst (λ file. ImageOf file (linked_image l)) (sym written) (reload_image l laid) in
        let same_image : linked_image l ≡ image = one_image exe (linked_image l) image loaded loads in
        subst (λ n. IsListing reader image n text ↔ IsSourceListing (program program_of.sources n) text) same_map
        (subst (λ im. IsListing reader im l.map text ↔ IsSourceListing (program program_of.sources l.map) text) same_image (agrees reader text))
