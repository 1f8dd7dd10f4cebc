-- The first of what is left is the first of all.
use Rattle.std.proofs.Common.{◌≡◌, Some, map, drop}
use Rattle.std.specs.List.{slice_get}
use Rattle.rv_object_types.specs.Parts.{relocation_of}
use Rattle.rv_shorten.specs.View.{short_object_of}
use Rattle.rv_link_laws.specs.Undefined.{first_some, undefined_name}
use Rattle.rv_addresses.proofs.resolution.Resolution.undefined_among.Given as goal

abbrev pub invariant-loop-relocation : goal.invariant-loop-relocation
invariant-loop-relocation l =
    slice_get (map short_object_of l.self.objects.now) l.file.0 ≡ Some (short_object_of l.object)
    → first_some (λ r. undefined_name (map short_object_of l.self.objects.now) (short_object_of l.object) r.symbol) (map relocation_of (drop l.relocation-index l.relocations))
    ≡ first_some (λ r. undefined_name (map short_object_of l.self.objects.now) (short_object_of l.object) r.symbol) (map relocation_of l.relocations)
