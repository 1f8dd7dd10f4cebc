-- The rows so far, with those that come, are all that stay.
use Rattle.std.proofs.Common.{◌≡◌, ◌++◌, not, filter, map, drop}
use Rattle.rv_object_types.specs.Sections.{section_of}
use Rattle.rv_collect.specs.Drops.{drops_in}
use Rattle.rv_collect.proofs.left.left_rows.Given as goal

abbrev pub invariant-loop-row : goal.invariant-loop-row
invariant-loop-row l =
    l.left.items ++ filter (λ r. not (drops_in (map section_of l.sections) l.marks r.section)) (drop l.row-index l.rows)
    ≡ filter (λ r. not (drops_in (map section_of l.sections) l.marks r.section)) l.rows
