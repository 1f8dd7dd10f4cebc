-- What is dropped so far, with what comes, is all that is dropped.
use Rattle.std.proofs.Common.{◌≡◌, ◌++◌, All, map, drop}
use Rattle.rv_map_laws.specs.Limits.{IsDrop}
use Rattle.rv_object_types.specs.Sections.{section_of}
use Rattle.rv_collect.specs.Drops.{drops_in, dropped_from}
use Rattle.rv_collect.proofs.collection.put_drops.Given as goal

abbrev pub invariant-loop-index : goal.invariant-loop-index
invariant-loop-index l = record {
  known : All (λ d. IsDrop d) l.fn.drops.items → All (λ d. IsDrop d) l.drops.items;
  dropped : l.drops.items ++ dropped_from (drops_in (map section_of l.sections) l.marks) l.file.0 l.index (map section_of (drop l.index l.sections))
      ≡ l.fn.drops.items ++ dropped_from (drops_in (map section_of l.sections) l.marks) l.file.0 0 (map section_of l.sections);
}
