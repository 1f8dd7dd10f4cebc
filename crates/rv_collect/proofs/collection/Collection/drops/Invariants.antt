-- What is dropped so far, with what comes, is all that is dropped.
use Rattle.std.proofs.Common.{◌≡◌, ◌++◌, All, suc, map, drop}
use Rattle.rv_map_laws.specs.Limits.{IsDrop}
use Rattle.rv_object_types.specs.View.{object_of}
use Rattle.rv_collect.proofs.DropsLemmas.{dropped_of}
use Rattle.rv_collect.proofs.collection.Collection.drops.Given as goal

abbrev pub invariant-loop-file : goal.invariant-loop-file
invariant-loop-file l = record {
  known : All (λ d. IsDrop d) l.drops.items;
  dropped : l.drops.items ++ dropped_of l.self.marks (suc l.file) (map object_of (drop l.file l.objects)) ≡ dropped_of l.self.marks 1 (map object_of l.objects);
}
