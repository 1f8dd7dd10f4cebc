-- The objects of texts and of files: what the texts say, assembled, and what the files say, read.

use Rattle.std.specs.Prelude.{◌≡◌, ℕ, ⊤, List, [], ◌∷◌, None}
use Rattle.rv_statement_laws.specs.Statement.{Statement}
use Rattle.rv_parse_laws.specs.Reading.{Reads}
use Rattle.rv_object_laws.specs.Object.{Object}
use Rattle.rv_assemble_laws.specs.Refusals.{statements_fault}
use Rattle.rv_assemble_laws.specs.IsObjectOf.{IsObjectOf}
use Rattle.rv_object_file_laws.specs.FirstFault.{first_fault}
use Rattle.rv_object_file_laws.specs.Known.{IsObject}
use Rattle.rv_object_file_laws.specs.ObjectOf.{ObjectOf}
use Rattle.rv_object_file_laws.specs.Written.{file_of}

-- the object of the statements that a text reads as, which have no fault
abbrev pub IsObjectFrom : List ℕ → Object → Type 0
IsObjectFrom text o =
    (ss : List Statement) × Reads text ss × (statements_fault ss ≡ None) × IsObjectOf ss o

-- the file that is written of that object, as the types of the code keep it
abbrev pub IsObjectFile : List ℕ → List ℕ → Type 0
IsObjectFile text file =
    (o : Object) × IsObjectFrom text o × IsObject o × (file ≡ file_of o)

-- the object of a file that has no fault
abbrev pub IsObjectIn : List ℕ → Object → Type 0
IsObjectIn file o = (first_fault file ≡ None) × ObjectOf file o

-- one of each
abbrev pub AreEach : (List ℕ → Object → Type 0) → List (List ℕ) → List Object → Type 0
AreEach Is [] [] = ⊤
AreEach Is [] (o ∷ os) = ⊥
AreEach Is (bytes ∷ all) [] = ⊥
AreEach Is (bytes ∷ all) (o ∷ os) = Is bytes o × AreEach Is all os

-- the objects of texts
abbrev pub AreObjectsFrom : List (List ℕ) → List Object → Type 0
AreObjectsFrom texts os = AreEach IsObjectFrom texts os

-- the objects in files
abbrev pub AreObjectsIn : List (List ℕ) → List Object → Type 0
AreObjectsIn files os = AreEach IsObjectIn files os
