-- Why a build is refused, by the texts of its sources and the ground of the program:
-- memory runs out, or a fault names its cause.

use Rattle.std.specs.Prelude.{◌≡◌, ℕ, ◌+◌, Bool, ⊤, ◌⊎◌, List, ◌∷◌, ◌++◌, length, map}
use Rattle.rv_fault.specs.declared.source_fault.SourceFault.{SourceFault}
use Rattle.rv_statement_laws.specs.Statement.{Statement}
use Rattle.rv_object_types.specs.declared.object.Object.{Object as DeclaredObject}
use Rattle.rv_object_laws.specs.Object.{Object}
use Rattle.rv_object_types.specs.View.{object_of}
use Rattle.rv_link_laws.specs.declared.bounds.Ground.{Ground}
use Rattle.rv_link_laws.specs.Without.{without}
use Rattle.rv_link_laws.specs.Refusals.{ArePast, HasNoProgram}
use Rattle.rv_assemble_laws.specs.FirstFault.{IsFirstFault}
use Rattle.rv_fault.specs.declared.link_fault.LinkFault.{LinkFault}
use Rattle.rv_link_laws.specs.TextStart.{AreWithin}
use Rattle.rv_chain_laws.specs.Headline.{AllRead}
use Rattle.rv_reach_theorems.specs.Reach.{ShortFormsReach}
use Rattle.rv_fault.specs.declared.fault.Fault.{Fault}
use Rattle.rv_fault.specs.declared.fault.Fault.TheVariants.{Source, File, Link, Memory}
use Rattle.rv_fault.specs.Fault.{IsNamed}
use Rattle.rv_chain_laws.specs.Objects.{AreObjectsFrom}

-- a source of this number is refused, by its first fault; memory may run out
abbrev pub IsRefusedAt : ℕ → List ℕ → Fault → Type 0
IsRefusedAt file text (Source number fault) =
    IsNamed (Source number fault) × (number ≡ file) × IsFirstFault text fault
IsRefusedAt file text (File number fault) = ⊥
IsRefusedAt file text (Link fault) = ⊥
IsRefusedAt file text Memory = ⊤

-- the first source with a fault: those before it have objects
pub record IsFirstRefused (texts : List (List ℕ)) (number : ℕ) (fault : SourceFault) : Type 0 where
  pub before : List (List ℕ)
  pub text : List ℕ
  pub after : List (List ℕ)
  pub whole : texts ≡ before ++ text ∷ after
  pub number_is : number ≡ length before + 1
  pub objects : List Object
  pub good : AreObjectsFrom before objects
  pub refused : IsFirstFault text fault

abbrev pub IsRefusedIn : List (List ℕ) → Fault → Type 0
IsRefusedIn texts (Source number fault) =
    IsNamed (Source number fault) × IsFirstRefused texts number fault
IsRefusedIn texts (File number fault) = ⊥
IsRefusedIn texts (Link fault) = ⊥
IsRefusedIn texts Memory = ⊤

-- each source has its object
abbrev pub AreAssembled : List (List ℕ) → Type 0
AreAssembled texts = (os : List Object) × AreObjectsFrom texts os

-- and they have no program; a field that does not take its value is none of a form that was chosen
-- because it reaches
pub record AreUnlinked (texts : List (List ℕ)) (bounds : Ground) (relax gc : Bool)
    (fault : LinkFault) : Type 0 where
  pub objects : List DeclaredObject
  pub are : AreObjectsFrom texts (map object_of objects)
  pub unlinked : HasNoProgram (map object_of objects) bounds relax gc fault
  pub sources : List (List Statement)
  pub read : AllRead texts sources
  pub reached :
      ShortFormsReach sources (without unlinked.drops (map object_of objects)) unlinked.left bounds

-- files and a ground that can be linked, and sources without a fault
abbrev pub AreGood : List (List ℕ) → Ground → Type 0
AreGood texts bounds = AreWithin (length texts) bounds × AreAssembled texts

-- first the count of the files, then the ground, then the sources, and then the link
abbrev pub IsRefusedFor : List (List ℕ) → Ground → Bool → Bool → Fault → Type 0
IsRefusedFor texts bounds relax gc (Source number fault) =
    IsNamed (Source number fault)
    × AreWithin (length texts) bounds × IsFirstRefused texts number fault
IsRefusedFor texts bounds relax gc (File number fault) = ⊥
IsRefusedFor texts bounds relax gc (Link fault) =
    IsNamed (Link fault)
    × (ArePast (length texts) bounds fault ⊎ AreUnlinked texts bounds relax gc fault)
IsRefusedFor texts bounds relax gc Memory = ⊤
