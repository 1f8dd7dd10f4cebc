-- Objects have the sections with an address of their sources.

use Rattle.std.proofs.Common.{◌≡◌, ℕ, suc, Bool, true, false, List, [], ◌∷◌, ◌++◌, map, refl, ap, ◌∙◌}
use Rattle.std.proofs.lemmas.List.{map-append}
use Rattle.std.specs.Prelude.{if◌then◌else◌}
use Rattle.rv_map_laws.specs.declared.map.SectionId.{SectionId}
use Rattle.rv_statement_laws.specs.Statement.{Statement}
use Rattle.rv_unit_laws.specs.Sections.{Section as SourceSection}
use Rattle.rv_unit_laws.specs.Tables.{Tables, tables, opened_of}
use Rattle.rv_source_laws.specs.Collected.{loaded_from, loaded_of}
use Rattle.rv_object_laws.specs.Object.{Section, Symbol, Object}
use Rattle.rv_link_laws.specs.Inputs.{InputSection, inputs_from, inputs_of}
use Rattle.rv_link_laws.specs.IsLinkOf.{is_loaded}
use Rattle.rv_link_laws.specs.Collects.{id_of, loaded_sections}
use Rattle.rv_assemble_laws.specs.LaidStatements.{LaidStatement}
use Rattle.rv_assemble_laws.specs.IsObjectOf.{Numbering, AreSectionsOf}
use Rattle.rv_sources_link_theorems.specs.Joins.{AreObjectsOf}

own : (file : ℕ) (o : Object) (t : Tables) (all : List LaidStatement) (number : Numbering) (symbols : List Symbol) (index : ℕ) (ss : List SourceSection) (xs : List Section)
    → AreSectionsOf t all number symbols index ss xs → map id_of (inputs_from is_loaded file o index xs) ≡ loaded_from file index ss
own file o t all number symbols index [] [] h = refl
own file o t all number symbols index [] (x ∷ xs) h = absurd h
own file o t all number symbols index (s ∷ ss) [] h = absurd h
own file o t all number symbols index (s ∷ ss) (x ∷ xs) (h, hs) = go x.loaded s.loaded h.loaded (own file o t all number symbols (suc index) ss xs hs)
  where
    it : InputSection
    it = record { file = file; object = o; index = index; section = x }

    more : List InputSection
    more = inputs_from is_loaded file o (suc index) xs

    id : SectionId
    id = record { file = file; section = suc index }

    rest : List SectionId
    rest = loaded_from file (suc index) ss

    go : (a b : Bool) → a ≡ b → map id_of more ≡ rest → map id_of (if a then it ∷ more else more) ≡ (if b then id ∷ rest else rest)
    go true b e k = ap (λ l. id ∷ l) k ∙ ap (λ b. if b then id ∷ rest else rest) e
    go false b e k = k ∙ ap (λ b. if b then id ∷ rest else rest) e

of_files : (file : ℕ) (sources : List (List Statement)) (os : List Object) → AreObjectsOf sources os → map id_of (inputs_of is_loaded file os) ≡ loaded_of file sources
of_files file [] [] h = refl
of_files file [] (o ∷ os) h = absurd h
of_files file (ss ∷ sources) [] h = absurd h
of_files file (ss ∷ sources) (o ∷ os) (is, h) =
    map-append id_of (inputs_from is_loaded file o 0 o.sections) (inputs_of is_loaded (suc file) os)
    ∙ ap (λ l. l ++ map id_of (inputs_of is_loaded (suc file) os)) (own file o (tables ss) is.laid is.number o.symbols 0 (opened_of (tables ss)).sections o.sections is.sections)
    ∙ ap (λ l. loaded_from file 0 (opened_of (tables ss)).sections ++ l) (of_files (suc file) sources os h)

pub loaded_alike : (sources : List (List Statement)) (os : List Object) → AreObjectsOf sources os → loaded_sections os ≡ loaded_of 1 sources
loaded_alike sources os h = of_files 1 sources os h
