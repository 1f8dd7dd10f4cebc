-- The table has all symbols of the file but for those that are left.
use Rattle.std.proofs.Common.{◌++◌, List, drop}
use Rattle.rv_object_laws.specs.Bindings.{is_global}
use Rattle.rv_names.specs.Chosen.{Definer, definers_in}
use Rattle.rv_names.specs.Names.{IsDefinitionTable}
use Rattle.rv_names.proofs.LoadingLemmas.{seen_symbols, HasBut}
use Rattle.rv_names.proofs.definitions.Definitions.put_all.Given as goal

abbrev pub invariant-loop-index : goal.invariant-loop-index
invariant-loop-index l =
    (ds : List Definer) → IsDefinitionTable ds l.fn.self
    → HasBut (λ done. IsDefinitionTable done l.self) (ds ++ definers_in is_global l.file.0 0 (seen_symbols l.symbols)) (definers_in is_global l.file.0 l.index (seen_symbols (drop l.index l.symbols)))
