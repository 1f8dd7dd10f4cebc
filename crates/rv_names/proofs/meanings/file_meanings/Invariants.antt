-- The row so far, with what is left, is the whole.
use Rattle.std.proofs.Common.{◌≡◌, ◌++◌, List, map, drop}
use Rattle.rv_object_types.specs.View.{object_of}
use Rattle.rv_names.specs.Chosen.{Definer}
use Rattle.rv_names.specs.Names.{AnswersFirst, outside, AreRows}
use Rattle.rv_names.proofs.LoadingLemmas.{seen_symbols}
use Rattle.rv_names.proofs.meanings.file_meanings.Given as goal

abbrev pub invariant-loop-index : goal.invariant-loop-index
invariant-loop-index l =
    (ds : List Definer) → AnswersFirst ds l.definitions → AreRows ds (map object_of l.objects) l.rows
    → l.row.items ++ map (outside ds) (seen_symbols (drop l.index l.symbols)) ≡ map (outside ds) (seen_symbols l.symbols)
