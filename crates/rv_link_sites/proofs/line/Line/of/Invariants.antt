use Rattle.std.proofs.Common.{◌≡◌, ◌+◌, ◌*◌, ◌++◌, ◌≤◌, ◌^◌, length, map, drop}
use Rattle.rv_object_types.specs.View.{object_of}
use Rattle.rv_link_sites.specs.Line.{ended_files, places_files, entries}
use Rattle.rv_link_sites.proofs.line.Line.of.Given as goal

-- what is there so far, and what is left, make up the whole
abbrev pub invariant-loop-object : goal.invariant-loop-object
invariant-loop-object l =
    let left = map object_of (drop l.object-index l.objects) in
    record {
      files : l.files.items ++ entries (length l.places.items) left ≡ entries 0 (map object_of l.objects);
      places : l.places.items ++ places_files l.stop left ≡ places_files 0 (map object_of l.objects);
      ends : ended_files l.stop left ≡ ended_files 0 (map object_of l.objects);
      low : 2 * l.stop ≤ length l.places.items * (2 ^ 64 + 4094);
    }
