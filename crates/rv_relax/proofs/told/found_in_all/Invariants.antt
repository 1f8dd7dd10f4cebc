use Rattle.std.proofs.Common.{◌≡◌, ◌++◌, ℕ, List, drop}
use Rattle.std.specs.List.{flat_map, slice_get}
use Rattle.rv_relax.proofs.ToldLemmas.{told_in}
use Rattle.rv_relax.proofs.told.found_in_all.Given as goal

-- what is wanted is in the objects that are left
abbrev pub invariant-loop-i : goal.invariant-loop-i
invariant-loop-i l =
    let own = told_in l.counted in
    (more : List ℕ) → slice_get (flat_map own (drop l.i l.objects) ++ more) l.left ≡ slice_get (flat_map own l.objects ++ more) l.fn.left
