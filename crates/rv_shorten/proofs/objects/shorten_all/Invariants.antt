use Rattle.std.proofs.Common.{◌≡◌, ◌≤◌, ◌++◌, length, map, drop}
use Rattle.rv_object_types.specs.View.{object_of}
use Rattle.rv_shorten.specs.Cuts.{walked_cuts}
use Rattle.rv_shorten.specs.View.{moves_by_section, short_object_of, whole_object_of}
use Rattle.rv_cut_laws.specs.Walk.{AreWalked, walked}
use Rattle.rv_shorten.proofs.objects.shorten_all.Given as goal

abbrev pub invariant-loop-object : goal.invariant-loop-object
invariant-loop-object l =
    let rest = map object_of (drop l.object-index l.objects) in
    record {
      whole : map whole_object_of l.left.items ++ rest ≡ map object_of l.objects;
      made : map short_object_of l.left.items ++ walked rest (drop l.at l.sites) (drop l.at l.kept) ≡ walked (map object_of l.objects) l.sites l.kept;
      moved : map moves_by_section l.left.items ++ walked_cuts rest (drop l.at l.sites) (drop l.at l.kept) ≡ walked_cuts (map object_of l.objects) l.sites l.kept;
      cuts : AreWalked rest (drop l.at l.sites) (drop l.at l.kept);
      low : l.at ≤ length l.sites;
    }
