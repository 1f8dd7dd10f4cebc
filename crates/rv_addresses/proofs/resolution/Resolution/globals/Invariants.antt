-- What is there so far, with what the files that are left show, is the whole.
use Rattle.std.proofs.Common.{◌≡◌, ◌++◌, ℕ, All, map, drop}
use Rattle.rv_map_laws.specs.Limits.{IsGlobal}
use Rattle.rv_map.specs.Views.{global_of}
use Rattle.rv_link_laws.specs.declared.bounds.Ground.{Ground}
use Rattle.rv_link_laws.specs.Names.{globals_of}
use Rattle.rv_placement.specs.Placement.{starts_of, IsPlacement}
use Rattle.rv_shorten.specs.View.{short_object_of}
use Rattle.rv_addresses.proofs.AddingLemmas.{files_shown}
use Rattle.rv_addresses.proofs.resolution.Resolution.globals.Given as goal

abbrev pub invariant-loop-file : goal.invariant-loop-file
invariant-loop-file l = record {
  known : All (λ g. IsGlobal (global_of g)) l.globals.items;
  shown : (bounds : Ground) → IsPlacement (map short_object_of l.self.objects.now) bounds l.placement
      → map global_of l.globals.items ++ files_shown (map short_object_of l.self.objects.now) l.placement l.file (drop l.file (map short_object_of l.self.objects.now))
      ≡ globals_of (starts_of l.placement) (map short_object_of l.self.objects.now);
}
