use Rattle.std.proofs.Common.{◌≡◌, ◌++◌, ℕ, List, drop}
use Rattle.std.specs.List.{flat_map, slice_get}
use Rattle.rv_relax.proofs.ToldLemmas.{told_by}
use Rattle.rv_relax.proofs.told.found_in.Given as goal

-- what is wanted is among the relocations that are left
abbrev pub invariant-loop-relocation : goal.invariant-loop-relocation
invariant-loop-relocation l =
    let own = told_by l.counted l.section in
    let xs = l.section.whole.now.relocations.items in
    (more : List ℕ) → slice_get (flat_map own (drop l.relocation-index xs) ++ more) l.left ≡ slice_get (flat_map own xs ++ more) l.fn.left
