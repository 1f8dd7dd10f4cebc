-- The order of the rows in a listing.

use Rattle.std.specs.Prelude.{List}
use Rattle.std.specs.declared.cmp.Ordering.{Ordering}
use Rattle.std.specs.Ordering.{nat_cmp, ordering_then}
use Rattle.std.specs.List.Sorted.{IsSorted, IsStable}
use Rattle.rv_map_laws.specs.declared.map.Row.{Row}

-- by address, then by file and ordinal
abbrev pub compared : Row → Row → Ordering
compared r q =
    ordering_then (ordering_then (nat_cmp r.address q.address) (nat_cmp r.file q.file))
    (nat_cmp r.ordinal q.ordinal)

-- these rows in that order; those that tie in all three stay in theirs
pub record IsInOrder (rows ordered : List Row) : Type 0 where
  pub sorted : IsSorted compared ordered
  pub stable : IsStable compared rows ordered
