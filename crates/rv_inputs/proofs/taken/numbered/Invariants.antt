use Rattle.std.proofs.Common.{◌≡◌, List, ℕ, Some, map, take}
use Rattle.std.specs.List.{slice_get}
use Rattle.rv_inputs.specs.Gathered.{FiledObject}
use Rattle.rv_inputs.specs.Views.{object_of}
use Rattle.rv_inputs.proofs.taken.numbered.Given as goal

-- the objects of the numbers so far
abbrev pub invariant-loop-i : goal.invariant-loop-i
invariant-loop-i l =
    map (slice_get (map object_of l.objects)) (take l.i l.numbers) ≡ map (λ (o : FiledObject). Some o) (map object_of l.taken.items)
