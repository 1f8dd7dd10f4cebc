use Rattle.std.proofs.Common.{◌≡◌, ◌++◌, ◌+◌, ℕ, All, map, drop}
use Rattle.rv_map_laws.specs.Limits.{IsRow}
use Rattle.rv_link_laws.specs.declared.bounds.Ground.{Ground}
use Rattle.rv_link_laws.specs.IsLinkOf.{rows_of}
use Rattle.rv_shorten.specs.View.{short_object_of}
use Rattle.rv_placement.specs.Placement.{starts_of, IsPlacement}
use Rattle.rv_placement.proofs.placement.Placement.rows.Given as goal

-- the rows so far, and those of the files that are left, make up the whole
abbrev pub invariant-loop-i : goal.invariant-loop-i
invariant-loop-i l = record {
  known : All IsRow l.rows.items;
  rows : (bounds : Ground) → IsPlacement (map short_object_of l.objects) bounds l.self
      → l.rows.items ++ rows_of (starts_of l.self) (l.i + 1) (map short_object_of (drop l.i l.objects)) ≡ rows_of (starts_of l.self) 1 (map short_object_of l.objects);
}
