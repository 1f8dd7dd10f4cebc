use Rattle.std.proofs.Common.{◌≡◌, ◌++◌, map, drop}
use Rattle.rv_object_types.specs.View.{object_of}
use Rattle.rv_shorten.specs.Cuts.{no_cuts}
use Rattle.rv_shorten.specs.View.{moves_by_section, short_object_of, whole_object_of}
use Rattle.rv_shorten.proofs.lent.whole.Given as goal

abbrev pub invariant-loop-object : goal.invariant-loop-object
invariant-loop-object l =
    record {
      whole : map whole_object_of l.left.items ++ map object_of (drop l.object-index l.objects) ≡ map object_of l.objects;
      same : map short_object_of l.left.items ++ map object_of (drop l.object-index l.objects) ≡ map object_of l.objects;
      none : map moves_by_section l.left.items ++ no_cuts (map object_of (drop l.object-index l.objects)) ≡ no_cuts (map object_of l.objects);
    }
