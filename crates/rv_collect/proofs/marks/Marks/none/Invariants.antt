-- The marks so far, with those of what is left, are those of all objects.
use Rattle.std.proofs.Common.{◌≡◌, ◌++◌, Bool, map, drop}
use Rattle.std.specs.Global.{Vec}
use Rattle.rv_collect.proofs.RowsLemmas.{empty_row}
use Rattle.rv_collect.proofs.marks.Marks.none.Given as goal

abbrev pub invariant-loop-object : goal.invariant-loop-object
invariant-loop-object l =
    map (λ (row : Vec Bool). row.items) l.files.items ++ map empty_row (drop l.object-index l.objects) ≡ map empty_row l.objects
