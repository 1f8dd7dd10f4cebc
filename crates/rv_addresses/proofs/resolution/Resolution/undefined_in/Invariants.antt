-- The first of what is left is the first of all.
use Rattle.std.proofs.Common.{◌≡◌, Some, map, drop}
use Rattle.std.specs.List.{slice_get}
use Rattle.rv_shorten.specs.Sections.{short_section_of}
use Rattle.rv_shorten.specs.View.{short_object_of}
use Rattle.rv_link_laws.specs.Undefined.{first_some, undefined_in}
use Rattle.rv_addresses.proofs.resolution.Resolution.undefined_in.Given as goal

abbrev pub invariant-loop-section : goal.invariant-loop-section
invariant-loop-section l =
    slice_get (map short_object_of l.self.objects.now) l.file.0 ≡ Some (short_object_of l.object)
    → first_some (undefined_in (map short_object_of l.self.objects.now) (short_object_of l.object)) (map short_section_of (drop l.section-index l.object.sections.items))
    ≡ first_some (undefined_in (map short_object_of l.self.objects.now) (short_object_of l.object)) (map short_section_of l.object.sections.items)
