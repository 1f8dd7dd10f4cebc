use Rattle.std.proofs.Common.{◌≡◌, map, take}
use Rattle.std.specs.Prelude.{filter, option_map}
use Rattle.std.specs.Option.{option_to_list}
use Rattle.rv_image.specs.SegmentView.{segment_of}
use Rattle.rv_listing_laws.specs.Raw.{is_executable}
use Rattle.rv_disasm.proofs.raw.executable.Given as goal

abbrev pub invariant-loop-segment : goal.invariant-loop-segment
invariant-loop-segment l =
    filter is_executable (map segment_of (take l.segment-index l.segments)) ≡ option_to_list (option_map (λ s. segment_of s.now) l.found)
