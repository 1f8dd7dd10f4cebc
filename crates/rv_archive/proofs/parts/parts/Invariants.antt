use Rattle.std.proofs.Common.{◌+◌, ◌-◌, ◌≤◌, length, map}
use Rattle.rv_archive_laws.specs.Parts.{magic_size, StandInRow}
use Rattle.rv_archive.specs.View.{plain_part}
use Rattle.rv_archive.proofs.parts.parts.Given as goal

-- the parts so far stand up to the place
abbrev pub invariant-loop-place : goal.invariant-loop-place
invariant-loop-place l = record {
  stand : StandInRow l.file magic_size (map plain_part l.parts.items) l.place;
  near : l.place ≤ length l.file + 1;
}

abbrev pub decreases-loop-place : goal.decreases-loop-place
decreases-loop-place l = length l.file - l.place
