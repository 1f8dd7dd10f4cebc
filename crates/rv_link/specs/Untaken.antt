-- Why fields do not take their values: the first relocation that fails (RISC-V ELF psABI,
-- "Relocations").

use Rattle.std.specs.Prelude.{◌≡◌, ◌⊎◌, List}
use Rattle.rv_fault.specs.declared.link_fault.LinkFault.{LinkFault}
use Rattle.rv_fault.specs.declared.link_fault.LinkFault.TheVariants.{OutOfMemory}
use Rattle.rv_object_laws.specs.Object.{Object}
use Rattle.rv_link_laws.specs.Inputs.{inputs}
use Rattle.rv_link_laws.specs.IsLinkOf.{is_loaded}
use Rattle.rv_link_laws.specs.Untaken.{AreUntaken, IsFirstUntaken}
use Rattle.rv_placement.specs.declared.placement.Placement.{Placement}
use Rattle.rv_placement.specs.Placement.{layout_of}
use Rattle.rv_link.specs.declared.fixed.PlacedInput.{PlacedInput}
use Rattle.rv_link.specs.declared.fixed.Fixed.{Fixed}
use Rattle.rv_link.specs.Filled.{objects_of, input_of}

abbrev pub AreUntakenOf : Fixed → PlacedInput → LinkFault → Type 0
AreUntakenOf f x fault = AreUntaken (objects_of f) (layout_of f.placement.now) fault (input_of f x)

-- memory may be wanting anywhere
abbrev pub OrMemory : (LinkFault → Type 0) → LinkFault → Type 0
OrMemory Told fault = (fault ≡ OutOfMemory) ⊎ Told fault

-- the first relocation of loaded sections that fails, by file, section and relocation
abbrev pub AreUnfilled : List Object → Placement → LinkFault → Type 0
AreUnfilled os p = OrMemory (λ fault. IsFirstUntaken os (layout_of p) fault (inputs is_loaded os))
