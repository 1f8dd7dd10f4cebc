use Rattle.std.proofs.Common.{[]}
use Rattle.rv_object_file_laws.specs.Parts.{kept}
use Rattle.rv_object_reader.specs.Collected.{lists_in, list_so_far}
use Rattle.rv_object_reader.proofs.CollectingLemmas.{kept_left}
use Rattle.rv_object_reader.proofs.MadeLemmas.{SoFar}
use Rattle.rv_object_reader.proofs.relocations.empty.Given as goal

-- the lists so far, and those of the sections that are left
abbrev pub invariant-loop-earlier : goal.invariant-loop-earlier
invariant-loop-earlier l =
    let file = l.checked.view.file.now in
    SoFar (λ _. Unit {0}) (list_so_far file []) (kept file) (lists_in l.lists.items) (kept_left file l.earlier)
