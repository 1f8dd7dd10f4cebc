use Rattle.std.proofs.Common.{◌≡◌, ℕ, ◌++◌, drop, true}
use Rattle.std.specs.List.{list_any, list_all}
use Rattle.rv_object_reader.specs.Stretches.{starts_in, is_short}
use Rattle.rv_object_reader.proofs.recent.put_all.Given as goal

-- those that are left, with the others so far, are as good as all with the others before
abbrev pub invariant-loop-index : goal.invariant-loop-index
invariant-loop-index l = record {
  short : list_all is_short (drop l.index l.spans) ≡ true;
  same : (a b : ℕ) → list_any (starts_in a b) (drop l.index l.spans ++ l.fields.by_start.entries)
      ≡ list_any (starts_in a b) (l.spans ++ l.fn.fields.by_start.entries);
}
