-- The table has all files but for those that are left.
use Rattle.std.proofs.Common.{map, drop}
use Rattle.rv_object_types.specs.View.{object_of}
use Rattle.rv_object_laws.specs.Bindings.{is_global}
use Rattle.rv_names.specs.Chosen.{seen_of, definers_from}
use Rattle.rv_names.specs.Names.{IsDefinitionTable}
use Rattle.rv_names.proofs.LoadingLemmas.{HasBut, global_definers}
use Rattle.rv_names.proofs.definitions.Definitions.global.Given as goal

abbrev pub invariant-loop-file : goal.invariant-loop-file
invariant-loop-file l =
    HasBut (λ done. IsDefinitionTable done l.definitions) (global_definers (map object_of l.objects)) (definers_from is_global l.file (seen_of (map object_of (drop l.file l.objects))))
