use Rattle.std.proofs.Common.{◌≡◌, ◌++◌, ◌+◌, ℕ, List, All, Some, map, drop}
use Rattle.std.specs.List.{slice_get}
use Rattle.rv_map_laws.specs.Limits.{IsRow}
use Rattle.rv_object_laws.specs.Object.{Object}
use Rattle.rv_link_laws.specs.declared.bounds.Ground.{Ground}
use Rattle.rv_link_laws.specs.IsLinkOf.{row_in}
use Rattle.rv_shorten.specs.View.{short_object_of}
use Rattle.rv_placement.specs.Moved.{moved_rows}
use Rattle.rv_placement.specs.Placement.{starts_of, IsPlacement}
use Rattle.rv_placement.proofs.placement.Placement.put_rows.Given as goal

-- the rows so far, and those that are left, make up the whole
abbrev pub invariant-loop-row : goal.invariant-loop-row
invariant-loop-row l = record {
  known : All IsRow l.initial.rows.items → All IsRow l.rows.items;
  added : (os : List Object) (bounds : Ground) → IsPlacement os bounds l.self → slice_get os l.file.0 ≡ Some (short_object_of l.object)
      → l.rows.items ++ map (row_in (starts_of l.self) (l.file.0 + 1) (short_object_of l.object)) (moved_rows l.object (drop l.row-index l.own))
      ≡ l.initial.rows.items ++ map (row_in (starts_of l.self) (l.file.0 + 1) (short_object_of l.object)) (moved_rows l.object l.own);
}
