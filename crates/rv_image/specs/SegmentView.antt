-- What a segment of the code stands for.

use Rattle.rv_image.specs.declared.segment.Segment.{Segment as DeclaredSegment}
use Rattle.rv_image_laws.specs.Segment.{Segment}

abbrev pub segment_of : DeclaredSegment → Segment
segment_of s = record { address = s.address; bytes = s.bytes.items; flags = s.flags }
