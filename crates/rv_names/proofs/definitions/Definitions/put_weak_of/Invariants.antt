-- The table has all symbols of the file but for those that are left.
use Rattle.std.proofs.Common.{◌++◌, List, drop}
use Rattle.rv_object_laws.specs.Bindings.{is_weak}
use Rattle.rv_names.specs.Chosen.{Definer, definers_in}
use Rattle.rv_names.specs.Names.{AnswersFirst}
use Rattle.rv_names.proofs.LoadingLemmas.{seen_symbols, HasBut}
use Rattle.rv_names.proofs.definitions.Definitions.put_weak_of.Given as goal

abbrev pub invariant-loop-index : goal.invariant-loop-index
invariant-loop-index l =
    (ds : List Definer) → AnswersFirst ds l.fn.self
    → HasBut (λ done. AnswersFirst done l.self) (ds ++ definers_in is_weak l.file.0 0 (seen_symbols l.symbols)) (definers_in is_weak l.file.0 l.index (seen_symbols (drop l.index l.symbols)))
