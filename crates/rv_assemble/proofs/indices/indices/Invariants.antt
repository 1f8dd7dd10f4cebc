use Rattle.std.proofs.Common.{◌≡◌, ◌≤◌, ◌++◌, drop, map}
use Rattle.rv_draft.specs.Draft.{field_of}
use Rattle.rv_assemble.specs.Making.{indices_of}
use Rattle.rv_assemble.proofs.indices.indices.Given as goal

-- the indices so far, and those of the fields that are left, are all of them
abbrev pub invariant-loop-index : goal.invariant-loop-index
invariant-loop-index l = record {
  within : l.next ≤ l.index;
  made : l.indices.items ++ indices_of (drop l.index (map field_of l.fields)) (drop l.next l.numbers) ≡ indices_of (map field_of l.fields) l.numbers;
}
