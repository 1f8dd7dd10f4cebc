-- What joins the contracts of the assembler and the linker.

use Rattle.std.specs.Prelude.{◌≡◌, ℕ, Bool, ⊤, List, [], ◌∷◌}
use Rattle.rv_statement_laws.specs.Statement.{Statement}
use Rattle.rv_source_laws.specs.Compressed.{is_compressed}
use Rattle.rv_image_laws.specs.Linked.{Linked}
use Rattle.rv_chain_laws.specs.Contents.{IsLinked}
use Rattle.rv_object_laws.specs.Object.{Object}
use Rattle.rv_assemble_laws.specs.IsObjectOf.{IsObjectOf}
use Rattle.rv_link_laws.specs.declared.bounds.Ground.{Ground}
use Rattle.rv_link_laws.specs.IsProgramOf.{IsProgramOf}

-- each object is that of its source
abbrev pub AreObjectsOf : List (List Statement) → List Object → Type 0
AreObjectsOf [] [] = ⊤
AreObjectsOf [] (o ∷ os) = ⊥
AreObjectsOf (ss ∷ sources) [] = ⊥
AreObjectsOf (ss ∷ sources) (o ∷ os) = IsObjectOf ss o × AreObjectsOf sources os

-- the program of the objects of sources, relaxed or not, collected or not, is the linked program of
-- the sources
abbrev pub Joins : Type 0
Joins =
    (sources : List (List Statement)) (os : List Object) (bounds : Ground)
    (relax gc : Bool) (l : Linked)
    → AreObjectsOf sources os → IsProgramOf os bounds relax gc l
    → IsLinked sources bounds.text relax gc l

-- and it is flagged as compressed code where the sources have some
abbrev pub IsFlagged : Type 0
IsFlagged =
    (sources : List (List Statement)) (os : List Object) (bounds : Ground)
    (relax gc : Bool) (l : Linked)
    → AreObjectsOf sources os → IsProgramOf os bounds relax gc l
    → l.rvc ≡ is_compressed sources
