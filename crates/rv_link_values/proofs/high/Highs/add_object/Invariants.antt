-- The index has the high parts of the sections so far.
use Rattle.std.proofs.Common.{map, take}
use Rattle.std.specs.List.{slice_get}
use Rattle.rv_shorten.specs.Sections.{short_section_of}
use Rattle.rv_placement.specs.Placement.{placed_at}
use Rattle.rv_link_values.specs.Highs.{high_in, HasFileBefore}
use Rattle.rv_link_values.proofs.high.Highs.add_object.Given as goal

abbrev pub invariant-loop-index : goal.invariant-loop-index
invariant-loop-index l = HasFileBefore l.fn.self l.self l.file.0 (λ s offset. high_in (placed_at l.placement l.file.0 s) (slice_get (map short_section_of (take l.index l.object.sections.items)) s) offset)
