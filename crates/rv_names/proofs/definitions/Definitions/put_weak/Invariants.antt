-- The table has all files but for those that are left.
use Rattle.std.proofs.Common.{◌++◌, List, map, drop}
use Rattle.rv_object_types.specs.View.{object_of}
use Rattle.rv_object_laws.specs.Bindings.{is_weak}
use Rattle.rv_names.specs.Chosen.{Definer, seen_of, definers_from}
use Rattle.rv_names.specs.Names.{AnswersFirst}
use Rattle.rv_names.proofs.LoadingLemmas.{HasBut}
use Rattle.rv_names.proofs.definitions.Definitions.put_weak.Given as goal

abbrev pub invariant-loop-file : goal.invariant-loop-file
invariant-loop-file l =
    (ds : List Definer) → AnswersFirst ds l.fn.self
    → HasBut (λ done. AnswersFirst done l.self) (ds ++ definers_from is_weak 0 (seen_of (map object_of l.objects))) (definers_from is_weak l.file (seen_of (map object_of (drop l.file l.objects))))
