-- What is there so far, with the extents of the files that are left, is the whole.
use Rattle.std.proofs.Common.{◌≡◌, ◌++◌, map, drop}
use Rattle.rv_link_laws.specs.declared.bounds.Ground.{Ground}
use Rattle.rv_placement.specs.Placement.{IsPlacement, layout_of}
use Rattle.rv_shorten.specs.View.{short_object_of}
use Rattle.rv_addresses.specs.Ended.{short_ended_from}
use Rattle.rv_addresses.specs.Extents.{sizes_in, addresses_of, extents_by}
use Rattle.rv_addresses.proofs.resolution.Resolution.extents.Given as goal

abbrev pub invariant-loop-file : goal.invariant-loop-file
invariant-loop-file l =
    let os = map short_object_of l.self.objects.now in
    let own = addresses_of os (layout_of l.placement) in
    let ends = addresses_of (short_ended_from (sizes_in l.sizes) 0 l.self.objects.now) (layout_of l.placement) in
    (bounds : Ground) → IsPlacement os bounds l.placement
    → map (λ row. row.items) l.files.items ++ extents_by (drop l.file own) (drop l.file ends) ≡ extents_by own ends
