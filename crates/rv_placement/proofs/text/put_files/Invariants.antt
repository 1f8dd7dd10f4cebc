use Rattle.std.proofs.Common.{◌≡◌, ◌++◌, ◌≤◌, take, drop, map}
use Rattle.std.specs.List.{AllZip}
use Rattle.rv_link_laws.specs.Inputs.{goes_to_text}
use Rattle.rv_shorten.specs.View.{short_object_of}
use Rattle.rv_placement.specs.Walk.{ended_files, text_files, gapped_files, lists_of, AreKept}
use Rattle.rv_placement.proofs.text.put_files.Given as goal

-- what is placed so far, and what is left, make up the whole
abbrev pub invariant-loop-i : goal.invariant-loop-i
invariant-loop-i l =
    (map (λ f. map (λ q. q.start) f) (lists_of l.files.items) ++ text_files l.stop (map short_object_of (drop l.i l.objects)) ≡ text_files l.first (map short_object_of l.objects))
    × (ended_files goes_to_text l.stop (map short_object_of (drop l.i l.objects)) ≡ ended_files goes_to_text l.first (map short_object_of l.objects))
    × (l.stop ≤ l.ceiling)
    × AllZip AreKept (map short_object_of (take l.i l.objects)) (lists_of l.files.items)
    × (l.gaps.items ++ gapped_files l.stop (map short_object_of (drop l.i l.objects)) ≡ l.initial.gaps.items ++ gapped_files l.first (map short_object_of l.objects))
