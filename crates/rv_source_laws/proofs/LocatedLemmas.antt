-- What follows from the definitions of Located, for all who cite them.

use Rattle.std.proofs.Common.{◌≡◌, ℕ, suc, List, [], ◌∷◌, length, refl, ap, Bool, true, false}
use Rattle.rv_statement_laws.specs.Statement.{Statement}
use Rattle.rv_unit_laws.specs.Tables.{Tables, after}
use Rattle.rv_unit_laws.specs.Sections.{Section}
use Rattle.rv_source_laws.specs.Located.{located_from, without_address}

pub count_from : (k : ℕ) (t : Tables) (ss : List Statement) → length (located_from 1 k t ss) ≡ length ss
count_from k t [] = refl
count_from k t (s ∷ ss) = ap suc (count_from (suc k) (after t k s.kind) ss)

pub without_executable : (dropped : Bool) (x : Section) → (without_address dropped x).executable ≡ x.executable
without_executable true x = refl
without_executable false x = refl
