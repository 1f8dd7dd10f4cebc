use Rattle.std.proofs.Common.{map, sym, ◌∙◌}
use Rattle.rv_image.specs.SegmentView.{segment_of}
use Rattle.rv_memory.specs.Flat.{memory_of}
use Rattle.rv_memory.proofs.UnmadeLemmas.{none-unmade}
use Rattle.rv_memory.proofs.flat.Flat.new.Goals as goal

pub returns : goal.returns
returns c = sym (none-unmade (memory_of (map segment_of c.in_ok-with_stack.field-0.items))) ∙ c.in_ok-with_stack.ensures.memory
