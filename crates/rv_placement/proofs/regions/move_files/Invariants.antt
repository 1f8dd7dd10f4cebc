use Rattle.std.proofs.Common.{◌≡◌, ◌++◌, ◌≤◌, take, drop, map, length}
use Rattle.rv_shorten.specs.View.{short_object_of}
use Rattle.rv_placement.specs.Walk.{goes, started_files, ended_files, lists_of}
use Rattle.rv_placement.proofs.regions.move_files.Given as goal

-- what is moved so far, and what is left, make up the whole
abbrev pub invariant-loop-i : goal.invariant-loop-i
invariant-loop-i l =
    (take l.i (lists_of l.files) ++ started_files (goes l.destination) l.stop (drop l.i (lists_of l.files)) (map short_object_of (drop l.i l.objects))
    ≡ started_files (goes l.destination) l.first (lists_of l.initial.files) (map short_object_of l.objects))
    × (ended_files (goes l.destination) l.stop (map short_object_of (drop l.i l.objects)) ≡ ended_files (goes l.destination) l.first (map short_object_of l.objects))
    × (l.stop ≤ l.ceiling) × (map length (lists_of l.files) ≡ map (λ o. length o.sections) (map short_object_of l.objects))
