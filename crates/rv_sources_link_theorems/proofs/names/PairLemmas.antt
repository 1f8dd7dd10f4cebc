-- The definitions for all files of sources and of their objects, one by the other: what is shown of them, and from what.

use Rattle.std.proofs.Common.{◌≡◌, ℕ, suc, ◌≤◌, true, List, [], ◌∷◌, ◌++◌, map, Option, Some, None}
use Rattle.std.specs.Prelude.{⊤, is_some}
use Rattle.std.specs.List.{AllByRecursion}
use Rattle.rv_unit_laws.specs.Bindings.{is_shared, is_global}
use Rattle.rv_unit_laws.specs.Tables.{Tables}
use Rattle.rv_source_laws.specs.Exports.{defined_name}
use Rattle.rv_source_laws.specs.Program as source
use Rattle.rv_source_laws.specs.Program.{MaybeMapped, Program, export, tables_in}
use Rattle.rv_object_laws.specs.Object.{Object}
use Rattle.rv_object_laws.specs.Bindings as symbols
use Rattle.rv_link_laws.specs.Names as objects
use Rattle.rv_link_laws.specs.Names.{names_of}
use Rattle.rv_assemble_laws.specs.LaidStatements.{LaidStatement}
use Rattle.rv_assemble_laws.specs.Symbols.{shared_symbol, statement_definition, exports}
use Rattle.rv_sources_link_theorems.proofs.names.ExportedLemmas.{exported}
use Rattle.rv_sources_link_theorems.proofs.statements.StatementsLemmas.{renumbered}

-- ---- one by the other

abbrev pub ArePaired : {X Y : Type 0} → (X → Y → Type 0) → List X → List Y → Type 0
ArePaired R [] [] = ⊤
ArePaired R [] (y ∷ ys) = ⊥
ArePaired R (x ∷ xs) [] = ⊥
ArePaired R (x ∷ xs) (y ∷ ys) = R x y × ArePaired R xs ys

-- a pair, or none of both
abbrev pub IsAlike : {X Y : Type 0} → (X → Y → Type 0) → Option X → Option Y → Type 0
IsAlike R None None = ⊤
IsAlike R None (Some y) = ⊥
IsAlike R (Some x) None = ⊥
IsAlike R (Some x) (Some y) = R x y

-- ---- what is shown, for any relation between a definition of the sources and one of the objects

pub record AreChosenAlike (R : source.Export → objects.Export → Type 0) (p : Program) (os : List Object) : Type 0 where
  -- the names of all global definitions
  pub globals : map (λ x. x.name) (source.exports_where is_global p) ≡ names_of (objects.exports_where symbols.is_global os)
  -- a name means a pair, or nothing on both sides
  pub chosen : (name : List ℕ) → IsAlike R (source.chosen p name) (objects.chosen os name)
  -- those that names mean are the same, in order
  pub shown : ArePaired R (source.chosen_exports p) (objects.chosen_exports os)

-- a name means something on both sides, or on none: `any_given` takes it from the record
abbrev pub AreGiven : Program → List Object → Type 0
AreGiven p os = (name : List ℕ) → is_some (source.chosen p name) ≡ is_some (objects.chosen os name)

-- ---- from what: the law is `chosen_alike`, from `AreMade R p 1 os p.statements`

-- the ordinals of statements rise
abbrev pub Rise : ℕ → List LaidStatement → Type 0
Rise n [] = ⊤
Rise n (z ∷ zs) = (n ≤ z.located.ordinal) × Rise (suc z.located.ordinal) zs

module _ (R : source.Export → objects.Export → Type 0) where
  -- a statement's name for all files and the symbol that the assembler made of it, at any index, are a pair
  abbrev pub IsPair : (t : Tables) (laid : List LaidStatement) (seen : LaidStatement → MaybeMapped) (file : ℕ) (o : Object) → LaidStatement → Type 0
  IsPair t laid seen file o z =
      (name : List ℕ) (index : ℕ) → defined_name t z.located.ordinal z.located.kind ≡ name ∷ [] → is_shared (t.bindings name) ≡ true
      → R (export (seen z) name) (record { file = file; object = o; index = index; symbol = shared_symbol t name (statement_definition t laid z z.located.kind) })

  -- an object, and its statements in the program: each is a laid statement of the object as it is seen there
  pub record IsMade (p : Program) (file : ℕ) (o : Object) (own : List MaybeMapped) : Type 0 where
    pub t : Tables
    pub laid : List LaidStatement
    pub seen : LaidStatement → MaybeMapped
    pub tables : tables_in p file ≡ t
    pub own_are : own ≡ map seen laid
    pub located : (z : LaidStatement) → (seen z).located ≡ renumbered file z.located
    pub rise : Rise 1 laid
    pub exported_are : exported o ≡ exports t laid
    pub pairs : AllByRecursion (IsPair t laid seen file o) laid

  -- of all files from a number on
  abbrev pub AreMade : Program → ℕ → List Object → List MaybeMapped → Type 0
  AreMade p file [] all = all ≡ []
  AreMade p file (o ∷ os) all =
      (own : List MaybeMapped) × (rest : List MaybeMapped) × (all ≡ own ++ rest) × IsMade p file o own × AreMade p (suc file) os rest
