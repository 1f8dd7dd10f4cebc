-- The extents of the symbols of what a plan leaves of objects.

use Rattle.std.specs.Prelude.{◌≡◌, List, Option}
use Rattle.rv_link_laws.specs.declared.bounds.Ground.{Ground}
use Rattle.rv_link_laws.specs.Layout.{Layout, IsLayout}
use Rattle.rv_relax.specs.declared.plan.Plan.{Plan}
use Rattle.rv_relax.specs.Plan.{planned_objects}
use Rattle.rv_addresses.specs.Ended.{short_ended_from}
use Rattle.rv_addresses.specs.Extents.{SymbolSizes, addresses_of, extents_by}
use Rattle.rv_addresses.specs.declared.extents.SymbolExtent.{SymbolExtent}

pub record AreExtentsOf (plan : Plan) (sizes : SymbolSizes) (g : Ground)
    (extents : List (List (Option SymbolExtent))) : Type 0 where
  pub layout : Layout
  pub laid : IsLayout (planned_objects plan) g layout
  pub reach : extents ≡ extents_by (addresses_of (planned_objects plan) layout)
      (addresses_of (short_ended_from sizes 0 plan.objects.items) layout)
