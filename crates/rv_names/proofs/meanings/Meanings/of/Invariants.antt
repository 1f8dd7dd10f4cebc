-- The rows so far, with what is left, are the whole.
use Rattle.std.proofs.Common.{◌≡◌, ◌++◌, Option, map, drop}
use Rattle.std.specs.Global.{Vec}
use Rattle.rv_object_types.specs.View.{object_of}
use Rattle.rv_names.specs.declared.definitions.Exported.{Exported}
use Rattle.rv_names.specs.Chosen.{seen_of, definitions}
use Rattle.rv_names.specs.Names.{AnswersFirst, outside}
use Rattle.rv_names.proofs.meanings.Meanings.of.Given as goal

abbrev pub invariant-loop-file : goal.invariant-loop-file
invariant-loop-file l =
    AnswersFirst (definitions (map object_of l.objects)) l.definitions
    → map (λ (row : Vec (Option Exported)). row.items) l.files.items ++ map (map (outside (definitions (map object_of l.objects)))) (seen_of (map object_of (drop l.file l.objects)))
    ≡ map (map (outside (definitions (map object_of l.objects)))) (seen_of (map object_of l.objects))
