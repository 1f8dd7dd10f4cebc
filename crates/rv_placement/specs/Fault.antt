-- What a fault of the places is to a link.

use Rattle.rv_fault.specs.declared.link_fault.LinkFault.{LinkFault}
use Rattle.rv_fault.specs.declared.link_fault.LinkFault.TheVariants.{ImageTooLarge, OutOfMemory}
use Rattle.rv_placement.specs.declared.fault.PlacementFault.{PlacementFault}
use Rattle.rv_placement.specs.declared.fault.PlacementFault.TheVariants as placements

abbrev pub of_placement : PlacementFault → LinkFault
of_placement placements.TooLarge = ImageTooLarge
of_placement placements.OutOfMemory = OutOfMemory
