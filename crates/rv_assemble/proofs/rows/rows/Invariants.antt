use Rattle.std.proofs.Common.{◌≡◌, ◌++◌, ◌<◌, ◌^◌, true, length, reverse, vec_len}
use Rattle.rv_object_laws.specs.Valid.{are_counted}
use Rattle.rv_assemble.specs.Making.{rows_from}
use Rattle.rv_assemble.proofs.rows.rows.Given as goal

-- the rows of the items that are left, and those so far, from the back, are all rows
abbrev pub invariant-loop-item : goal.invariant-loop-item
invariant-loop-item l = record {
  whole : rows_from 1 l.items.items ++ reverse l.rows.items ≡ rows_from 1 l.fn.items.items;
  few : length l.items.items < 2 ^ 32;
  counted : are_counted l.rows.items ≡ true;
}

abbrev pub decreases-loop-item : goal.decreases-loop-item
decreases-loop-item l = vec_len l.items
