-- What the symbol of a relocation makes of its value.

use Rattle.std.proofs.Common.{◌≡◌, ℕ, ◌+◌, List, Option, Some, subst}
use Rattle.std.specs.Prelude.{option_map, option_and_then}
use Rattle.std.specs.List.{slice_get}
use Rattle.rv_object_laws.specs.Object.{Object}
use Rattle.rv_link_laws.specs.declared.bounds.Ground.{Ground}
use Rattle.rv_link_laws.specs.Names.{symbol_address, symbol_place}
use Rattle.rv_link_laws.specs.Layout.{outer_in}
use Rattle.rv_object_types.specs.declared.place.Place.{Place as DeclaredPlace}
use Rattle.rv_object_types.specs.Places.{place_of}
use Rattle.rv_placement.specs.declared.placement.Placement.{Placement}
use Rattle.rv_placement.specs.Placement.{starts_of, IsPlacement, layout_of}
use Rattle.rv_addresses.specs.Resolution.{all}
use Rattle.rv_link_values.specs.declared.values.Values.{Values}
use Rattle.rv_link_values.specs.Values.{IsValues}

-- what is said of an address by the objects and the placement of the code
abbrev AddressIs : Option ℕ → ℕ → ℕ → List Object → Placement → Type 0
AddressIs address file index os p =
    (bounds : Ground) (o : Object) → IsPlacement os bounds p → slice_get os file ≡ Some o
    → address ≡ option_and_then (symbol_address (outer_in os (layout_of p)) (starts_of p (file + 1)) o) (slice_get o.symbols index)

pub address_is : (address : Option ℕ) (file index : ℕ) (v : Values) (os : List Object) (p : Placement) (o : Object) → IsValues os p v → slice_get os file ≡ Some o
    → AddressIs address file index (all v.resolution.now) v.placement.now
    → address ≡ option_and_then (symbol_address (outer_in os (layout_of p)) (starts_of p (file + 1)) o) (slice_get o.symbols index)
address_is address file index v os p o h at claim =
    let by_objects : AddressIs address file index os v.placement.now = subst (λ x. AddressIs address file index x v.placement.now) h.objects claim in
    let both : AddressIs address file index os p = subst (AddressIs address file index os) h.placement by_objects in
    both h.bounds o h.placed at

-- what is said of a place by the objects of the code
abbrev PlaceIs : Option DeclaredPlace → ℕ → ℕ → List Object → Type 0
PlaceIs place file index os =
    (o : Object) → slice_get os file ≡ Some o → option_map place_of place ≡ option_and_then (symbol_place os (file + 1)) (slice_get o.symbols index)

pub place_is : (place : Option DeclaredPlace) (file index : ℕ) (v : Values) (os : List Object) (p : Placement) (o : Object) → IsValues os p v → slice_get os file ≡ Some o
    → PlaceIs place file index (all v.resolution.now)
    → option_map place_of place ≡ option_and_then (symbol_place os (file + 1)) (slice_get o.symbols index)
place_is place file index v os p o h at claim = subst (PlaceIs place file index) h.objects claim o at
