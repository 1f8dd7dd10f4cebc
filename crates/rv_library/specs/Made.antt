-- What is made of sources and of objects, or why nothing is.

use Rattle.std.specs.Prelude.{◌≡◌, ◌⊎◌, ℕ, Bool, true, false, List, Option, Some, None, Result, Ok, Err}
use Rattle.rv_fault.specs.declared.fault.Fault.{Fault}
use Rattle.rv_link_laws.specs.Ground.{usual}
use Rattle.rv_chain_laws.specs.Headline.{TheHeadline}
use Rattle.rv_chain_laws.specs.Building.{IsExecutableOf}
use Rattle.rv_chain_laws.specs.Linking.{AreLinked, IsLinkedAs}
use Rattle.rv_chain_laws.specs.Objects.{IsObjectFile}
use Rattle.rv_chain.specs.Refusals.{IsRefusedAt, IsRefusedFor}
use Rattle.rv_chain.specs.LinkRefusals.{AreUnlinkable}
use Rattle.rv_library.specs.declared.answers.Made.{Made}
use Rattle.rv_library.specs.declared.answers.Answer.{Answer}
use Rattle.rv_library.specs.Given.{IsGiven, IsGivenAlone}
use Rattle.rv_library.specs.Texts.{texts_by_lengths}
use Rattle.rv_library.specs.Options.{are_known, relaxes, collects, has_map}

-- a flag means nothing, or the lengths are not those of all the bytes
abbrev pub AreUnfit : (bytes lengths : List ℕ) → (flags : ℕ) → Type 0
AreUnfit bytes lengths flags = (are_known flags ≡ false) ⊎ (texts_by_lengths lengths bytes ≡ None)

-- the executable of these texts, and its map where it is wanted
abbrev pub IsBuilt : List (List ℕ) → ℕ → (relax gc with_map : Bool) → Made → Type 0
IsBuilt texts start relax gc true made =
    TheHeadline texts start relax gc made.first.items made.second.items
IsBuilt texts start relax gc false made =
    IsExecutableOf texts (usual start) relax gc made.first.items

-- what is built of the texts that the bytes are, or the fault for which that is refused
abbrev pub IsBuild : (bytes lengths : List ℕ) → (start flags : ℕ) → Result (Option Made) Fault →
    Type 0
IsBuild bytes lengths start flags (Ok None) = AreUnfit bytes lengths flags
IsBuild bytes lengths start flags (Ok (Some made)) =
    (texts : List (List ℕ)) × (texts_by_lengths lengths bytes ≡ Some texts)
    × IsBuilt texts start (relaxes flags) (collects flags) (has_map flags) made
IsBuild bytes lengths start flags (Err fault) =
    (texts : List (List ℕ)) → texts_by_lengths lengths bytes ≡ Some texts →
    IsRefusedFor texts (usual start) (relaxes flags) (collects flags) fault

-- the executable of these objects' files, and its map where it is wanted
abbrev pub IsLinkage : List (List ℕ) → ℕ → (relax gc with_map : Bool) → Made → Type 0
IsLinkage files start relax gc true made =
    AreLinked files (usual start) relax gc made.first.items made.second.items
IsLinkage files start relax gc false made =
    IsLinkedAs files (usual start) relax gc made.first.items

-- what is linked of the files that the bytes are, or the fault for which that is refused
abbrev pub IsLink : (bytes lengths : List ℕ) → (start flags : ℕ) → Result (Option Made) Fault →
    Type 0
IsLink bytes lengths start flags (Ok None) = AreUnfit bytes lengths flags
IsLink bytes lengths start flags (Ok (Some made)) =
    (files : List (List ℕ)) × (texts_by_lengths lengths bytes ≡ Some files)
    × IsLinkage files start (relaxes flags) (collects flags) (has_map flags) made
IsLink bytes lengths start flags (Err fault) =
    (files : List (List ℕ)) → texts_by_lengths lengths bytes ≡ Some files →
    AreUnlinkable files (usual start) (relaxes flags) (collects flags) fault

-- the file of a source's object, or the fault for which that is refused
abbrev pub IsAssembly : List ℕ → Result (Option Made) Fault → Type 0
IsAssembly text (Ok None) = ⊥
IsAssembly text (Ok (Some made)) = IsObjectFile text made.first.items
IsAssembly text (Err fault) = IsRefusedAt 1 text fault

-- what is built of them is given
abbrev pub GivesBuild : (bytes lengths : List ℕ) → (start flags status : ℕ) →
    (executable executable' map map' : List ℕ) → Answer → Type 0
GivesBuild bytes lengths start flags status executable executable' map map' answer =
    (made : Result (Option Made) Fault) × IsBuild bytes lengths start flags made
    × IsGiven made status executable executable' map map' answer

-- what is linked is given
abbrev pub GivesLink : (bytes lengths : List ℕ) → (start flags status : ℕ) →
    (executable executable' map map' : List ℕ) → Answer → Type 0
GivesLink bytes lengths start flags status executable executable' map map' answer =
    (made : Result (Option Made) Fault) × IsLink bytes lengths start flags made
    × IsGiven made status executable executable' map map' answer

-- the object is given
abbrev pub GivesAssembly : (text : List ℕ) → (status : ℕ) → (object object' : List ℕ) → Answer →
    Type 0
GivesAssembly text status object object' answer =
    (made : Result (Option Made) Fault) × IsAssembly text made
    × IsGivenAlone made status object object' answer
