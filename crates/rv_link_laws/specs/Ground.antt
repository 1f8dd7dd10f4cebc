-- Where a link may put a program (GNU ld, "-Ttext"; this project's limits of memory).

use Rattle.std.specs.Prelude.{◌≡◌, ℕ, ◌%◌, ◌<◌, ◌≤◌}
use Rattle.rv_isa_laws.specs.Platform.{stack_start}
use Rattle.rv_image_laws.specs.Free.{free_until}
use Rattle.rv_link_laws.specs.declared.bounds.Ground.{Ground}

-- the ground of a text that starts below the stack: the program ends there, too
abbrev pub usual : ℕ → Ground
usual start = record { text = start; ceiling = stack_start }

-- the ground of a text that may begin anywhere: as far as memory is free
abbrev pub ground_of : ℕ → Ground
ground_of origin = record { text = origin; ceiling = free_until origin }

-- text begins at a page, below a ceiling, and memory is free from the one to the other
abbrev pub IsGround : Ground → Type 0
IsGround g = (g.text % 4096 ≡ 0) × (g.text < g.ceiling) × (g.ceiling ≤ free_until g.text)
