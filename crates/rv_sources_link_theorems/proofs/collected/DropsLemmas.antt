-- What collection drops of objects is what it drops of their sources.

use Rattle.std.proofs.Common.{◌≡◌, ℕ, suc, Bool, List, [], ◌∷◌, refl}
use Rattle.std.specs.Prelude.{codes}
use Rattle.rv_map_laws.specs.declared.map.SectionId.{SectionId}
use Rattle.rv_collect_laws.specs.Graph.{AreAlike, AreDrops}
use Rattle.rv_collect_laws.proofs.MarksLemmas.{alike_drops}
use Rattle.rv_statement_laws.specs.Statement.{Statement}
use Rattle.rv_source_laws.specs.Program as source
use Rattle.rv_source_laws.specs.Program.{Program, chosen}
use Rattle.rv_source_laws.specs.Collected.{unplaced, graph_of as sources_graph}
use Rattle.rv_object_laws.specs.Object.{Object}
use Rattle.rv_link_laws.specs.Names as objects
use Rattle.rv_link_laws.specs.Collects.{Collects, graph_of as objects_graph}
use Rattle.rv_sources_link_theorems.specs.Joins.{AreObjectsOf}
use Rattle.rv_sources_link_theorems.proofs.collected.LoadedLemmas.{loaded_alike}
use Rattle.rv_sources_link_theorems.proofs.collected.HereLemmas.{AreHere, all_here, PairsOf, all_made}
use Rattle.rv_sources_link_theorems.proofs.collected.MeantLemmas.{HomesAlike, homes_alike, meant}
use Rattle.rv_sources_link_theorems.proofs.collected.BeginsLemmas.{BeginsAlike, begins_alike, begins_at}
use Rattle.rv_sources_link_theorems.proofs.collected.RefersLemmas.{AllMeant, refers_alike}
use Rattle.rv_sources_link_theorems.proofs.names.PairLemmas.{IsAlike}
use Rattle.rv_sources_link_theorems.proofs.names.AlikeLemmas.{chosen_alike}

module _ (sources : List (List Statement)) (os : List Object) (h : AreObjectsOf sources os) where
  abbrev p : Program
  p = unplaced sources

  here : AreHere p 1 sources os h
  here = all_here sources os h

  -- what a name means
  by_pairs : (R : source.Export → objects.Export → Type 0) → PairsOf R p → (name : List ℕ) → IsAlike R (chosen p name) (objects.chosen os name)
  by_pairs R pairs name = (chosen_alike R p os (all_made R p pairs 1 sources os h here)).chosen name

  homes : (name : List ℕ) → IsAlike (HomesAlike p) (chosen p name) (objects.chosen os name)
  homes = by_pairs (HomesAlike p) (λ f ss o is a. homes_alike p f ss o is a)

  begins : (s : SectionId) → (objects_graph os).begins s ≡ (sources_graph sources).begins s
  begins s =
      begins_at s (chosen p (codes "_start")) (objects.chosen os (codes "_start"))
      (by_pairs BeginsAlike (λ f ss o is a. begins_alike ss o is f) (codes "_start"))

  all_meant : (k : ℕ) (some : List (List Statement)) (us : List Object) (q : AreObjectsOf some us) → AreHere p k some us q → AllMeant p os k some us q
  all_meant k [] [] q a = tt
  all_meant k [] (o ∷ us) q a = absurd q
  all_meant k (ss ∷ some) [] q a = absurd q
  all_meant k (ss ∷ some) (o ∷ us) (is, q) (a, as') = (meant p os homes k ss o is a, all_meant (suc k) some us q as')

  pub graphs_alike : AreAlike (objects_graph os) (sources_graph sources)
  graphs_alike = record {
    sections = loaded_alike sources os h;
    begins = λ s has. begins s;
    refers = λ s t has_s has_t apart. refers_alike p sources os h s t apart refl here (all_meant 1 sources os h here) has_s;
  }

pub drops_join : (gc : Bool) (sources : List (List Statement)) (os : List Object) (drops : List SectionId) → AreObjectsOf sources os → Collects gc os drops → AreDrops gc (sources_graph sources) drops
drops_join gc sources os drops h collects = alike_drops gc (objects_graph os) (sources_graph sources) drops (graphs_alike sources os h) collects
