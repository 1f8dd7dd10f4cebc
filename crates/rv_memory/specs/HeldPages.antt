-- The memory that pages in the code keep, as data.

use Rattle.std.specs.Prelude.{List}
use Rattle.rv_isa_laws.specs.Memory.{Mem}
use Rattle.rv_image_laws.specs.Segment.{Segment}
use Rattle.rv_memory.specs.Held.{held, pieces}
use Rattle.rv_memory.specs.Unmade.{with_unmade}
use Rattle.rv_memory.specs.declared.paged.Paged.{Paged}

-- its segments
abbrev pub pages_in : Paged → List Segment
pages_in paged = pieces paged.flat

-- the memory that they make, with the part of the stack that is not made yet
abbrev pub held_pages : Paged → Mem
held_pages paged = with_unmade paged.base (held paged.flat)
