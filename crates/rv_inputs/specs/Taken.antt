-- Which objects a link takes of its files, and why there are none.

use Rattle.std.specs.Prelude.{◌≡◌, ℕ, ◌+◌, List, [], ◌∷◌, ◌++◌, map, take, codes, Some, None, Err, ⊤}
use Rattle.std.specs.List.{slice_get}
use Rattle.rv_fault.specs.declared.file_fault.FileFault.{FileFault}
use Rattle.rv_archive_laws.specs.Reads.{Reads}
use Rattle.rv_archive_laws.specs.Taken.{ObjectNames, Takes}
use Rattle.rv_object_laws.specs.Object.{Object}
use Rattle.rv_object_file_laws.specs.FirstFault.{first_fault}
use Rattle.rv_object_file_laws.specs.ObjectOf.{ObjectOf}
use Rattle.rv_inputs.specs.declared.fault.InputFault.{InputFault}
use Rattle.rv_inputs.specs.declared.fault.InputFault.TheVariants as faults
use Rattle.rv_inputs.specs.declared.input.Input.{Input}
use Rattle.rv_inputs.specs.Gathered.{FiledObject, Gathering, no_files, Gathers}
use Rattle.rv_inputs.specs.Names.{names_said}
use Rattle.rv_inputs.specs.Views.{object_of}

-- the names of these objects, by their numbers, are what their files say
abbrev pub AreNamesOf : List FiledObject → List ℕ → (ℕ → ObjectNames) → Type 0
AreNamesOf objects numbers names_of = (i n : ℕ) (held : FiledObject) (o : Object) →
    slice_get numbers i ≡ Some n → slice_get objects n ≡ Some held → ObjectOf held.bytes o →
    names_of n ≡ names_said o

-- a run begins at `_start`, so a link asks for it from the start (GNU ld, "Setting the Entry Point")
abbrev pub wanted : List (List ℕ)
wanted = codes "_start" ∷ []

-- objects of these numbers are taken of what files offer
abbrev pub AreTakenOf : Gathering → List ℕ → Type 0
AreTakenOf g numbers = (names_of : ℕ → ObjectNames) → AreNamesOf g.objects numbers names_of →
    Takes names_of wanted g.offers numbers

-- of these files a link takes these objects, in this order
pub record AreObjectsTaken (inputs : List Input) (taken : List FiledObject) : Type 0 where
  pub gathering : Gathering
  pub gathers : Gathers inputs no_files gathering
  pub numbers : List ℕ
  pub takes : AreTakenOf gathering numbers
  pub objects : map (slice_get gathering.objects) numbers ≡ map (λ x. Some x) taken

-- why the file of a number is no archive; memory may run out whatever it is
abbrev pub IsNoArchive : ℕ → List ℕ → InputFault → Type 0
IsNoArchive number bytes (faults.Archive file fault) =
    (file ≡ number) × Reads bytes (Err fault)
IsNoArchive number bytes (faults.Object object fault) = ⊥
IsNoArchive number bytes faults.OutOfMemory = ⊤

-- why the file behind so many is not added
abbrev pub IsNotAdded : ℕ → List ℕ → InputFault → Type 0
IsNotAdded before bytes fault = IsNoArchive (before + 1) bytes fault

-- why the file behind some others is not, which are as they should be
pub record IsFirstRefused (inputs : List Input) (fault : InputFault) : Type 0 where
  pub before : ℕ
  pub input : Input
  pub there : slice_get inputs before ≡ Some input
  pub gathering : Gathering
  pub gathers : Gathers (take before inputs) no_files gathering
  pub refused : IsNotAdded before input.bytes.now fault

-- a link takes an object right behind others, whatever the object says itself of names
abbrev pub IsTakenBehind : Gathering → List ℕ → ℕ → Type 0
IsTakenBehind g before number =
    (names_of : ℕ → ObjectNames) → AreNamesOf g.objects before names_of → (all : List ℕ)
    → Takes names_of wanted g.offers all → (more : List ℕ) × (all ≡ before ++ number ∷ more)

-- the objects of these numbers have no fault
abbrev pub AreRead : List FiledObject → List ℕ → Type 0
AreRead objects numbers = (i n : ℕ) (held : FiledObject) → slice_get numbers i ≡ Some n
    → slice_get objects n ≡ Some held → first_fault held.bytes ≡ None

-- of the objects that a link takes this one is the first that has a fault, and has this one
pub record IsFirstUnread (g : Gathering) (held : FiledObject) (why : FileFault) : Type 0 where
  pub before : List ℕ
  pub read : AreRead g.objects before
  pub number : ℕ
  pub taken : IsTakenBehind g before number
  pub there : slice_get g.objects number ≡ Some held
  pub fault : first_fault held.bytes ≡ Some why

-- why an object says nothing of names; memory may run out whatever it is
abbrev pub IsUnread : FiledObject → InputFault → Type 0
IsUnread held (faults.Archive file fault) = ⊥
IsUnread held (faults.Object object fault) =
    (object_of object ≡ held) × (first_fault held.bytes ≡ Some fault)
IsUnread held faults.OutOfMemory = ⊤

-- why one of those that a link takes does not
abbrev pub IsUnreadIn : Gathering → InputFault → Type 0
IsUnreadIn g (faults.Archive file fault) = ⊥
IsUnreadIn g (faults.Object object fault) = IsFirstUnread g (object_of object) fault
IsUnreadIn g faults.OutOfMemory = ⊤

-- why there are none; memory may run out whatever the files are
abbrev pub IsInputRefused : List Input → InputFault → Type 0
IsInputRefused inputs (faults.Archive file fault) =
    IsFirstRefused inputs (faults.Archive file fault)
IsInputRefused inputs (faults.Object object fault) =
    (g : Gathering) × Gathers inputs no_files g × IsUnreadIn g (faults.Object object fault)
IsInputRefused inputs faults.OutOfMemory = ⊤
