use Rattle.std.proofs.Common.{◌≡◌, ℕ, ◌++◌, map, drop, length}
use Rattle.rv_draft.specs.Draft.{field_of}
use Rattle.rv_assemble.specs.Making.{relocations_in}
use Rattle.rv_assemble.specs.Lists.{list_in}
use Rattle.rv_assemble.proofs.relocations.relocations.Given as goal

-- the relocations so far, and those of what is left, are all relocations
abbrev pub invariant-loop-index : goal.invariant-loop-index
invariant-loop-index l =
    (length l.lists.items ≡ l.count)
    × ((j : ℕ) → list_in l.lists.items j ++ relocations_in j (drop l.index (map field_of l.fields)) (drop l.index l.numbers)
    ≡ relocations_in j (map field_of l.fields) l.numbers)
