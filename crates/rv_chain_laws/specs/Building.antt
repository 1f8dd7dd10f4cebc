-- What a build makes of the texts of sources.

use Rattle.std.specs.Prelude.{◌≡◌, ℕ, Bool, List}
use Rattle.rv_statement_laws.specs.Statement.{Statement}
use Rattle.rv_image_laws.specs.Linked.{Linked}
use Rattle.rv_source_laws.specs.Compressed.{is_compressed}
use Rattle.rv_link_laws.specs.declared.bounds.Ground.{Ground}
use Rattle.rv_chain_laws.specs.Contents.{IsLinked}
use Rattle.rv_link_laws.specs.WithMap.{map_where}
use Rattle.rv_chain_laws.specs.Headline.{AllRead, TheHeadline}
use Rattle.rv_chain_laws.specs.Linking.{IsProgramOfObjectsFrom, AreBuilt}
use Rattle.rv_chain_laws.specs.Listed.{IsListedAs}

-- the linked program of the statements that the texts read as, relaxed or not, flagged where they
-- have compressed code
pub record IsProgramFrom (texts : List (List ℕ)) (start : ℕ) (relax gc : Bool)
    (l : Linked) : Type 0 where
  pub sources : List (List Statement)
  pub read : AllRead texts sources
  pub linked : IsLinked sources start relax gc l
  pub flag : l.rvc ≡ is_compressed sources

-- that program, or what it is without the details of its map; it is that of the objects of the
-- texts, too
pub record IsProgramWithFrom (texts : List (List ℕ)) (g : Ground) (relax gc with_map : Bool)
    (l : Linked) : Type 0 where
  pub whole : Linked
  pub program : IsProgramFrom texts g.text relax gc whole
  pub links : IsProgramOfObjectsFrom texts g relax gc whole
  pub shown : l ≡ map_where with_map whole

-- the bytes of an executable with what `build` promises of them, for some text, which shows its map
pub record IsExecutableOf (texts : List (List ℕ)) (g : Ground) (relax gc : Bool)
    (executable : List ℕ) : Type 0 where
  pub map_bytes : List ℕ
  pub headline : TheHeadline texts g.text relax gc executable map_bytes
  pub listed : IsListedAs texts executable map_bytes
  pub links : AreBuilt texts g relax gc executable map_bytes
