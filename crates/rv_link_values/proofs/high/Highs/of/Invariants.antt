-- The index has the high parts of the objects so far.
use Rattle.std.proofs.Common.{◌≡◌, ℕ, map, take}
use Rattle.rv_shorten.specs.View.{short_object_of}
use Rattle.rv_link_values.specs.Highs.{found, high_of}
use Rattle.rv_link_values.proofs.high.Highs.of.Given as goal

abbrev pub invariant-loop-file : goal.invariant-loop-file
invariant-loop-file l = (f s x : ℕ) → found l.highs f s x
    ≡ high_of l.placement (map short_object_of (take l.file l.objects)) f s x
