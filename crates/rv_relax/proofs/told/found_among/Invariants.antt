use Rattle.std.proofs.Common.{◌≡◌, ◌++◌, ℕ, List, drop}
use Rattle.std.specs.List.{flat_map, slice_get}
use Rattle.rv_relax.specs.Told.{told_section}
use Rattle.rv_relax.proofs.told.found_among.Given as goal

-- what is wanted is in the sections that are left
abbrev pub invariant-loop-i : goal.invariant-loop-i
invariant-loop-i l =
    let own = told_section l.counted in
    (more : List ℕ) → slice_get (flat_map own (drop l.i l.sections) ++ more) l.left ≡ slice_get (flat_map own l.sections ++ more) l.fn.left
