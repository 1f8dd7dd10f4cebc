-- The object of a source of which collection dropped some sections: as in rv_assemble_laws, but that these have no address, and
-- that of its symbols only those for all files are counted.

use Rattle.std.specs.Prelude.{◌≡◌, ℕ, suc, Bool, ⊤, List, [], ◌∷◌, flat_map, map, None}
use Rattle.std.specs.List.{AllByRecursion, list_any}
use Rattle.rv_map_laws.specs.declared.map.SectionId.{SectionId}
use Rattle.rv_collect_laws.specs.Graph.{is_dropped}
use Rattle.rv_statement_laws.specs.Statement.{Statement}
use Rattle.rv_unit_laws.specs.Tables.{at_start, tables}
use Rattle.rv_source_laws.specs.Located.{located_from, masked}
use Rattle.rv_source_laws.specs.Compressed.{is_compressed_code}
use Rattle.rv_source_laws.specs.Sizes.{AreLeast}
use Rattle.rv_object_laws.specs.Object.{Object}
use Rattle.rv_assemble_laws.specs.Refusals.{statements_fault}
use Rattle.rv_assemble_laws.specs.LaidStatements.{LaidStatement}
use Rattle.rv_assemble_laws.specs.Symbols.{exports}
use Rattle.rv_assemble_laws.specs.IsObjectOf.{Numbering, AreSectionsOf, rows_at, StandsInData}
use Rattle.rv_sources_link_theorems.proofs.names.ExportedLemmas.{exported}
use Rattle.rv_sources_link_theorems.proofs.sections.MaskedLemmas.{source_sections}
use Rattle.rv_sources_link_theorems.proofs.sections.StoodLemmas.{IsStood}

pub record IsKept (ss : List Statement) (o : Object) : Type 0 where
  -- the sections without an address, by their indices
  pub dropped : ℕ → Bool
  pub good : statements_fault ss ≡ None
  pub laid : List LaidStatement
  pub located : map (λ s. s.located) laid ≡ map (masked dropped) (located_from 1 1 (at_start ss) ss)
  pub places : AllByRecursion (StandsInData laid) (tables ss).assignments
  -- sizes see no address
  pub least : AreLeast (tables ss) (located_from 1 1 (at_start ss) ss) (map (λ s. s.bytes) laid)
  pub number : Numbering
  pub sections : AreSectionsOf (tables ss) laid number o.symbols 0 (source_sections dropped ss) o.sections
  pub exported_are : exported o ≡ exports (tables ss) laid
  -- its symbols stand at its statements
  pub stood : AllByRecursion (λ x. IsStood laid x.definition) o.symbols
  pub rows : o.rows ≡ flat_map rows_at laid
  pub rvc : o.rvc ≡ list_any (λ s. is_compressed_code s.located) laid

abbrev pub AreKept : List (List Statement) → List Object → Type 0
AreKept [] [] = ⊤
AreKept [] (o ∷ os) = ⊥
AreKept (ss ∷ sources) [] = ⊥
AreKept (ss ∷ sources) (o ∷ os) = IsKept ss o × AreKept sources os

-- what is dropped of each, files numbered from one on
abbrev pub AreMasked : List SectionId → ℕ → (sources : List (List Statement)) (os : List Object) → AreKept sources os → Type 0
AreMasked drops file [] [] h = ⊤
AreMasked drops file [] (o ∷ os) h = absurd h
AreMasked drops file (ss ∷ sources) [] h = absurd h
AreMasked drops file (ss ∷ sources) (o ∷ os) (is, h) = (is.dropped ≡ is_dropped drops file) × AreMasked drops (suc file) sources os h
