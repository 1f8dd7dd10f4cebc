-- The program of the objects of sources, without the sections that collection dropped, is the linked program of the sources.

use Rattle.std.proofs.Common.{ℕ, Bool, List}
use Rattle.rv_statement_laws.specs.Statement.{Statement}
use Rattle.rv_collect_laws.specs.Graph.{AreDrops}
use Rattle.rv_source_laws.specs.Collected.{graph_of}
use Rattle.rv_image_laws.specs.Linked.{Linked}
use Rattle.rv_chain_laws.specs.Contents.{IsLinked}
use Rattle.rv_object_laws.specs.Object.{Object}
use Rattle.rv_link_laws.specs.declared.bounds.Ground.{Ground}
use Rattle.rv_link_laws.specs.IsLinkOf.{IsLinkOf}
use Rattle.rv_link_laws.specs.Shortened.{Relaxes}
use Rattle.rv_link_laws.specs.Without.{without}
use Rattle.rv_sources_link_theorems.specs.Joins.{AreObjectsOf}
use Rattle.rv_sources_link_theorems.proofs.sections.KeepingLemmas.{all_kept, all_masks}
use Rattle.rv_sources_link_theorems.proofs.ShortensLemmas.{kept_link}

-- where the sections dropped are those to which nothing leads in the sources
pub joins : (sources : List (List Statement)) (os : List Object) (bounds : Ground) (relax gc : Bool) (l : Linked) → AreObjectsOf sources os → AreDrops gc (graph_of sources) l.map.drops
    → (left : List Object) → Relaxes relax (without l.map.drops os) left → IsLinkOf left bounds l → IsLinked sources bounds.text relax gc l
joins sources os bounds relax gc l h collected left relaxed link =
    kept_link sources (without l.map.drops os) bounds relax gc l (all_kept l.map.drops 1 sources os h) (all_masks l.map.drops 1 sources os h) collected left relaxed link
