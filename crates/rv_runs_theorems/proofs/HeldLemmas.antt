-- In sources without faults each statement stands in a section that can hold it.

use Rattle.std.proofs.Common.{◌≡◌, ℕ, suc, List, [], ◌∷◌, None}
use Rattle.std.specs.List.{AllByRecursion}
use Rattle.rv_list_laws.proofs.EachLemmas.{each_append}
use Rattle.rv_statement_laws.specs.Statement.{Statement}
use Rattle.rv_unit_laws.specs.Tables.{at_start, tables}
use Rattle.rv_unit_laws.specs.Faults.{first_unit_fault}
use Rattle.rv_unit_laws.proofs.FewLemmas.{no_fault_from}
use Rattle.rv_source_laws.specs.Located.{located_from, located_of}
use Rattle.rv_source_laws.proofs.HeldLemmas.{Held, held_from}

pub held_of : (file : ℕ) (sources : List (List Statement)) → AllByRecursion (λ ss. first_unit_fault ss ≡ None) sources → AllByRecursion Held (located_of file sources)
held_of file [] h = tt
held_of file (ss ∷ files) (e, es) =
    each_append Held (located_from file 1 (at_start ss) ss) (located_of (suc file) files) (held_from (tables ss) file 1 (at_start ss) ss (no_fault_from ss e)) (held_of (suc file) files es)
