-- All to which the relocations so far lead is marked.
use Rattle.std.proofs.Common.{◌≡◌, true, map, take}
use Rattle.rv_map_laws.specs.declared.map.SectionId.{SectionId}
use Rattle.rv_object_types.specs.Parts.{relocation_of}
use Rattle.rv_object_types.specs.View.{object_of}
use Rattle.rv_collect.specs.Targets.{leads_in}
use Rattle.rv_collect.specs.Walk.{IsWalk, Grows, IsMarked}
use Rattle.rv_collect.proofs.walk.Walk.mark_all.Given as goal

abbrev pub invariant-loop-relocation : goal.invariant-loop-relocation
invariant-loop-relocation l = record {
  walk : IsWalk (map object_of l.objects) l.self;
  grows : Grows l.fn.self l.self;
  marked : (t : SectionId)
      → leads_in (map object_of l.objects) l.file.0 (object_of l.object) t (take l.relocation-index (map relocation_of l.relocations)) ≡ true
      → IsMarked (map object_of l.objects) l.self t;
}
