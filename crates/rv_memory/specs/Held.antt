-- The memory that the code keeps, as data.

use Rattle.std.specs.Prelude.{List, map}
use Rattle.rv_isa_laws.specs.Memory.{Mem}
use Rattle.rv_image_laws.specs.Segment.{Segment}
use Rattle.rv_image.specs.SegmentView.{segment_of}
use Rattle.rv_memory.specs.Flat.{memory_of}
use Rattle.rv_memory.specs.declared.flat.Flat.{Flat}

-- its segments
abbrev pub pieces : Flat → List Segment
pieces flat = map segment_of flat.segments.items

-- the memory that they make
abbrev pub held : Flat → Mem
held flat = memory_of (pieces flat)
