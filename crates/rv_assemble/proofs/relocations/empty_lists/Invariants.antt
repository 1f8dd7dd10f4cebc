use Rattle.std.proofs.Common.{◌≡◌, ℕ, [], length}
use Rattle.rv_assemble.specs.Lists.{list_in}
use Rattle.rv_assemble.proofs.relocations.empty_lists.Given as goal

-- the lists so far, all of them empty
abbrev pub invariant-loop : goal.invariant-loop
invariant-loop l = (length l.lists.items ≡ l.counter) × ((j : ℕ) → list_in l.lists.items j ≡ [])
