-- Where the link of objects puts their symbols, and how many bytes are left of each (gABI, "Symbol
-- Table", st_value, st_size; RISC-V ELF psABI, "Linker Relaxation").

use Rattle.std.specs.Prelude.{◌≡◌, ℕ, Bool, true, false, List, Option}
use Rattle.rv_size_laws.specs.Calls.{IsGreatestClosed}
use Rattle.rv_map_laws.specs.declared.map.SectionId.{SectionId}
use Rattle.rv_object_laws.specs.Object.{Object}
use Rattle.rv_link_laws.specs.declared.bounds.Ground.{Ground}
use Rattle.rv_link_laws.specs.CallSites.{sites_of}
use Rattle.rv_link_laws.specs.Collects.{Collects}
use Rattle.rv_link_laws.specs.Layout.{Layout, IsLayout}
use Rattle.rv_link_laws.specs.Shortened.{sizes_by, shortened, shortened_from}
use Rattle.rv_link_laws.specs.Without.{without}
use Rattle.rv_addresses.specs.Extents.{SymbolSizes, at_ends, addresses_of, extents_by}
use Rattle.rv_addresses.specs.declared.extents.SymbolExtent.{SymbolExtent}

-- what relaxation leaves of objects (`Relaxes`), and, with the same calls short, of others that
-- have their sections
abbrev pub RelaxesBoth : (relax : Bool) → (os others left others_left : List Object) → Type 0
RelaxesBoth false os others left others_left = (left ≡ os) × (others_left ≡ others)
RelaxesBoth true os others left others_left =
    (kept : List ℕ) × IsGreatestClosed (sites_of os) kept × (left ≡ shortened kept os)
    × (others_left ≡ shortened_from (sizes_by os kept) 1 others)

-- the extents of symbols in what relaxation leaves of objects, by how many bytes each has there
pub record AreExtentsLeft (os : List Object) (sizes : SymbolSizes) (g : Ground) (relax : Bool)
    (extents : List (List (Option SymbolExtent))) : Type 0 where
  -- what is linked, and the same with each symbol where it ends
  pub left : List Object
  pub ends : List Object
  pub relaxed : RelaxesBoth relax os (at_ends sizes os) left ends
  -- where its sections stand
  pub layout : Layout
  pub laid : IsLayout left g layout
  -- each symbol reaches from its address to that of its end
  pub reach : extents ≡ extents_by (addresses_of left layout) (addresses_of ends layout)

-- those of the symbols of objects, collected or not
pub record AreExtents (os : List Object) (sizes : SymbolSizes) (g : Ground) (relax gc : Bool)
    (extents : List (List (Option SymbolExtent))) : Type 0 where
  pub drops : List SectionId
  pub collected : Collects gc os drops
  pub of_left : AreExtentsLeft (without drops os) sizes g relax extents
