use Rattle.std.proofs.Common.{◌≡◌, drop, map}
use Rattle.std.specs.List.{find}
use Rattle.rv_debug_laws.specs.Carried.{is_part}
use Rattle.rv_debug_sections.specs.Views.{plain_part}
use Rattle.rv_debug_sections.proofs.part.place_of.Given as goal

abbrev pub invariant-loop-part : goal.invariant-loop-part
invariant-loop-part l = find (is_part l.index) (map plain_part l.parts) ≡ find (is_part l.index) (map plain_part (drop l.part-index l.parts))
