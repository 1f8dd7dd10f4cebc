-- That sources, and files, are refused for want of memory or for one fault.

use Rattle.std.specs.Prelude.{◌≡◌, ◌⊎◌, ℕ, Bool, ⊤, List}
use Rattle.rv_image_laws.specs.Linked.{Linked}
use Rattle.rv_fault.specs.declared.fault.Fault.{Fault}
use Rattle.rv_fault.specs.declared.fault.Fault.TheVariants.{Source, File, Link, Memory}
use Rattle.rv_chain_laws.specs.Linking.{IsProgramOfObjectsFrom, AreLinked}
use Rattle.rv_link_laws.specs.Refusals.{IsSameFault}
use Rattle.rv_chain.specs.Refusals.{IsRefusedFor}
use Rattle.rv_link_laws.specs.declared.bounds.Ground.{Ground}
use Rattle.rv_chain.specs.LinkRefusals.{AreUnlinkable}

-- the same fault: of one source or file, or of the link, where it has one number and tells one name
abbrev pub IsSame : Fault → Fault → Type 0
IsSame (Source number fault) (Source other same) = (number ≡ other) × (fault ≡ same)
IsSame (File number fault) (File other same) = (number ≡ other) × (fault ≡ same)
IsSame (Link fault) (Link other) = IsSameFault fault other
IsSame Memory Memory = ⊤
IsSame fault other = ⊥

-- memory runs out for one of two, or both are the same
abbrev pub IsMemoryOrSame : Fault → Fault → Type 0
IsMemoryOrSame fault other = (fault ≡ Memory) ⊎ ((other ≡ Memory) ⊎ IsSame fault other)

-- ---- sources

-- sources that have a program are refused for want of memory alone
abbrev pub SourcesForMemory : Type 0
SourcesForMemory =
    (texts : List (List ℕ)) (bounds : Ground) (relax gc : Bool) (l : Linked) (fault : Fault)
    → IsProgramOfObjectsFrom texts bounds relax gc l → IsRefusedFor texts bounds relax gc fault
    → fault ≡ Memory

-- and others, but for that, for one fault
abbrev pub SourcesForOne : Type 0
SourcesForOne =
    (texts : List (List ℕ)) (bounds : Ground) (relax gc : Bool) (fault other : Fault)
    → IsRefusedFor texts bounds relax gc fault → IsRefusedFor texts bounds relax gc other
    → IsMemoryOrSame fault other

pub record SourcesHaveOneFault : Type 0 where
  pub built : SourcesForMemory
  pub refused : SourcesForOne

-- ---- files

-- files that are linked are refused for want of memory alone
abbrev pub FilesForMemory : Type 0
FilesForMemory =
    (files : List (List ℕ)) (bounds : Ground) (relax gc : Bool) (exe map : List ℕ) (fault : Fault)
    → AreLinked files bounds relax gc exe map → AreUnlinkable files bounds relax gc fault
    → fault ≡ Memory

-- and others, but for that, for one fault
abbrev pub FilesForOne : Type 0
FilesForOne =
    (files : List (List ℕ)) (bounds : Ground) (relax gc : Bool) (fault other : Fault)
    → AreUnlinkable files bounds relax gc fault → AreUnlinkable files bounds relax gc other
    → IsMemoryOrSame fault other

pub record FilesHaveOneFault : Type 0 where
  pub linked : FilesForMemory
  pub refused : FilesForOne
