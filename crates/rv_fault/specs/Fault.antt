-- Which faults name their cause, and what a fault of the linker is to who builds.

use Rattle.std.specs.Prelude.{⊤}
use Rattle.rv_fault.specs.declared.source_fault.SourceFault.TheVariants as sources
use Rattle.rv_fault.specs.declared.file_fault.FileFault.TheVariants as files
use Rattle.rv_fault.specs.declared.link_fault.LinkFault.{LinkFault}
use Rattle.rv_fault.specs.declared.link_fault.LinkFault.TheVariants as links
use Rattle.rv_fault.specs.declared.fault.Fault.{Fault}
use Rattle.rv_fault.specs.declared.fault.Fault.TheVariants.{Source, File, Link, Memory}

-- want of memory, which is nobody's fault, is `Memory` alone: any other fault names its cause
abbrev pub IsNamed : Fault → Type 0
IsNamed (Source number sources.OutOfMemory) = ⊥
IsNamed (File number files.OutOfMemory) = ⊥
IsNamed (Link links.OutOfMemory) = ⊥
IsNamed _ = ⊤

abbrev pub of_link : LinkFault → Fault
of_link links.OutOfMemory = Memory
of_link fault = Link fault
