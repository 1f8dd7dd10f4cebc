-- That texts are built as the files of their objects are linked.

use Rattle.std.specs.Prelude.{◌≡◌, ℕ, ◌<◌, ◌^◌, Bool, ⊤, List, [], ◌∷◌, length}
use Rattle.rv_fault.specs.declared.fault.Fault.{Fault}
use Rattle.rv_fault.specs.declared.fault.Fault.TheVariants.{Memory}
use Rattle.rv_chain_laws.specs.Objects.{IsObjectFile}
use Rattle.rv_chain_laws.specs.Linking.{AreBuilt, AreLinked}
use Rattle.rv_chain.specs.Refusals.{IsRefusedFor}
use Rattle.rv_chain.specs.LinkRefusals.{AreUnlinkable}
use Rattle.rv_link_laws.specs.declared.bounds.Ground.{Ground}
use Rattle.rv_chain.specs.OneFault.{IsMemoryOrSame}

-- ---- a text and the file of its object

-- a file that fits into memory
pub record IsFileFor (text file : List ℕ) : Type 0 where
  pub made : IsObjectFile text file
  pub short : length file < 2 ^ 64

-- each text and its file
abbrev pub AreFilesFor : List (List ℕ) → List (List ℕ) → Type 0
AreFilesFor [] [] = ⊤
AreFilesFor [] (file ∷ files) = ⊥
AreFilesFor (text ∷ texts) [] = ⊥
AreFilesFor (text ∷ texts) (file ∷ files) = IsFileFor text file × AreFilesFor texts files

-- ---- the law

-- what is built of texts and what is linked of their files is the same
abbrev pub AreBuiltAlike : Type 0
AreBuiltAlike =
    (texts files : List (List ℕ)) (bounds : Ground) (relax gc : Bool)
    (exe other_exe map other_map : List ℕ)
    → AreFilesFor texts files → AreBuilt texts bounds relax gc exe map
    → AreLinked files bounds relax gc other_exe other_map → (exe ≡ other_exe) × (map ≡ other_map)

-- where texts are built, only want of memory keeps their files from being linked
abbrev pub AreNotUnlinkable : Type 0
AreNotUnlinkable =
    (texts files : List (List ℕ)) (bounds : Ground) (relax gc : Bool) (exe map : List ℕ)
    (fault : Fault)
    → AreFilesFor texts files → AreBuilt texts bounds relax gc exe map
    → AreUnlinkable files bounds relax gc fault → fault ≡ Memory

-- where the files are linked, only want of memory keeps the texts from being built
abbrev pub AreNotRefused : Type 0
AreNotRefused =
    (texts files : List (List ℕ)) (bounds : Ground) (relax gc : Bool) (exe map : List ℕ)
    (fault : Fault)
    → AreFilesFor texts files → AreLinked files bounds relax gc exe map
    → IsRefusedFor texts bounds relax gc fault → fault ≡ Memory

-- and where both are refused, neither for want of memory, it is for the same fault
abbrev pub AreRefusedAlike : Type 0
AreRefusedAlike =
    (texts files : List (List ℕ)) (bounds : Ground) (relax gc : Bool) (fault other : Fault)
    → AreFilesFor texts files → IsRefusedFor texts bounds relax gc fault
    → AreUnlinkable files bounds relax gc other → IsMemoryOrSame fault other

pub record BuildsAsItLinks : Type 0 where
  pub alike : AreBuiltAlike
  pub linked : AreNotUnlinkable
  pub built : AreNotRefused
  pub refused : AreRefusedAlike
