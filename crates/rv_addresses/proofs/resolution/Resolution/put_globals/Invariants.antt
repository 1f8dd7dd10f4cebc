-- What is there so far, with what the symbols that are left show, is the whole.
use Rattle.std.proofs.Common.{◌≡◌, ◌++◌, ℕ, All, Some, map, drop}
use Rattle.std.specs.List.{slice_get}
use Rattle.rv_link_laws.specs.declared.bounds.Ground.{Ground}
use Rattle.rv_map_laws.specs.Limits.{IsGlobal}
use Rattle.rv_map.specs.Views.{global_of}
use Rattle.rv_placement.specs.Placement.{IsPlacement}
use Rattle.rv_shorten.specs.View.{short_object_of}
use Rattle.rv_addresses.specs.Shown.{shown_in}
use Rattle.rv_addresses.proofs.resolution.Resolution.put_globals.Given as goal

abbrev pub invariant-loop-index : goal.invariant-loop-index
invariant-loop-index l = record {
  known : All (λ g. IsGlobal (global_of g)) l.fn.globals.items → All (λ g. IsGlobal (global_of g)) l.globals.items;
  added : (bounds : Ground) → IsPlacement (map short_object_of l.self.objects.now) bounds l.placement
      → slice_get (map short_object_of l.self.objects.now) l.file.0 ≡ Some (short_object_of l.object)
      → map global_of l.globals.items ++ shown_in (map short_object_of l.self.objects.now) l.placement l.file.0 (short_object_of l.object) l.index (drop l.index (short_object_of l.object).symbols)
      ≡ map global_of l.fn.globals.items ++ shown_in (map short_object_of l.self.objects.now) l.placement l.file.0 (short_object_of l.object) 0 (short_object_of l.object).symbols;
}
