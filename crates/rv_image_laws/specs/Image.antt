-- An image as a plain value: what memory holds before the first step.

use Rattle.std.specs.Prelude.{ℕ, List}
use Rattle.rv_image_laws.specs.Segment.{Segment}

-- the address of the first instruction, and the segments in the order of the file
pub record Image : Type 0 where
  pub entry : ℕ
  pub segments : List Segment
