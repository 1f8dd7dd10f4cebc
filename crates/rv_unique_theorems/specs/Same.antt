-- That objects have one program, and one reason to be refused.

use Rattle.std.specs.Prelude.{◌≡◌, ℕ, Bool, List}
use Rattle.std.specs.List.{AllByRecursion}
use Rattle.rv_image_laws.specs.Linked.{Linked}
use Rattle.rv_object_laws.specs.Object.{Object}
use Rattle.rv_link_laws.specs.declared.bounds.Ground.{Ground}
use Rattle.rv_link_laws.specs.IsProgramOf.{IsProgramOf}
use Rattle.rv_link_laws.specs.Refusals.{HasNoProgram, IsSameFault}
use Rattle.rv_fault.specs.declared.link_fault.LinkFault.{LinkFault}
use Rattle.rv_fault.specs.declared.link_fault.LinkFault.TheVariants.{OutOfMemory}
use Rattle.rv_unique_theorems.specs.Asked.{HavePlacedRows, LeavesEven, IsSound}

-- two programs of the same objects are equal
abbrev pub OneProgram : Type 0
OneProgram =
    (os : List Object) (bounds : Ground) (relax gc : Bool) (l m : Linked)
    → HavePlacedRows os → IsProgramOf os bounds relax gc l → IsProgramOf os bounds relax gc m
    → l ≡ m

-- objects that have a program are refused for want of memory alone
abbrev pub RefusedForMemory : Type 0
RefusedForMemory =
    (os : List Object) (bounds : Ground) (relax gc : Bool) (l : Linked) (fault : LinkFault)
    → IsProgramOf os bounds relax gc l → HasNoProgram os bounds relax gc fault → fault ≡ OutOfMemory

-- but for want of memory, objects are refused for one reason
abbrev pub RefusedForOne : Type 0
RefusedForOne =
    (os : List Object) (bounds : Ground) (relax gc : Bool) (f g : LinkFault)
    → LeavesEven os bounds.text relax gc
    → HasNoProgram os bounds relax gc f → (f ≡ OutOfMemory → ⊥)
    → HasNoProgram os bounds relax gc g → (g ≡ OutOfMemory → ⊥) → IsSameFault f g

-- what the laws ask is had by the objects of the code
abbrev pub RowsArePlaced : Type 0
RowsArePlaced = (os : List Object) → AllByRecursion IsSound os → HavePlacedRows os

abbrev pub RunsBeginEven : Type 0
RunsBeginEven =
    (os : List Object) (start : ℕ) (relax gc : Bool)
    → AllByRecursion IsSound os → LeavesEven os start relax gc
