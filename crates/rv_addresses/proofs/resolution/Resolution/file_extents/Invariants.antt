-- What is there so far, with the extents of the symbols that are left, is the whole.
use Rattle.std.proofs.Common.{◌≡◌, ◌+◌, ◌++◌, Some, map, drop, slice_get}
use Rattle.rv_link_laws.specs.declared.bounds.Ground.{Ground}
use Rattle.rv_link_laws.specs.Layout.{outer_in}
use Rattle.rv_placement.specs.Placement.{starts_of, IsPlacement, layout_of}
use Rattle.rv_shorten.specs.View.{short_object_of}
use Rattle.rv_addresses.specs.Ended.{short_ended, short_ended_from}
use Rattle.rv_addresses.specs.Extents.{sizes_in, addresses_in, extents_in}
use Rattle.rv_addresses.proofs.resolution.Resolution.file_extents.Given as goal

abbrev pub invariant-loop-index : goal.invariant-loop-index
invariant-loop-index l =
    let os = map short_object_of l.self.objects.now in
    let es = short_ended_from (sizes_in l.sizes) 0 l.self.objects.now in
    let p = l.placement in
    let own = addresses_in (outer_in os (layout_of p)) (starts_of p (l.file.0 + 1)) (short_object_of l.object) in
    let ends = addresses_in (outer_in es (layout_of p)) (starts_of p (l.file.0 + 1)) (short_ended (sizes_in l.sizes l.file.0) l.object) in
    (bounds : Ground) → IsPlacement os bounds p → slice_get os l.file.0 ≡ Some (short_object_of l.object) → slice_get es l.file.0 ≡ Some (short_ended (sizes_in l.sizes l.file.0) l.object)
    → l.extents.items ++ extents_in (drop l.index own) (drop l.index ends) ≡ extents_in own ends
