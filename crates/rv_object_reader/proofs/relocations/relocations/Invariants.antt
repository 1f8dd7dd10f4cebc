use Rattle.std.proofs.Common.{◌≡◌}
use Rattle.rv_object_reader.specs.Found.{sections_from}
use Rattle.rv_object_reader.specs.Collected.{lists_in, lists_so_far}
use Rattle.rv_object_reader.proofs.relocations.relocations.Given as goal

-- the relocations in the sections so far
abbrev pub invariant-loop-earlier : goal.invariant-loop-earlier
invariant-loop-earlier l =
    lists_in l.lists.items ≡ lists_so_far l.checked.view.file.now (sections_from l.checked.view.file.now l.earlier 1)
