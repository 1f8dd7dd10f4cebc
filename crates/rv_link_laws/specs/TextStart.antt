-- Files and a ground that can be linked.

use Rattle.std.specs.Prelude.{ℕ, ◌≤◌}
use Rattle.rv_link_laws.specs.IsLinkOf.{most_files}
use Rattle.rv_link_laws.specs.declared.bounds.Ground.{Ground}
use Rattle.rv_link_laws.specs.Ground.{usual, IsGround}

-- a text starts at a page below the stack
abbrev pub IsTextStart : ℕ → Type 0
IsTextStart start = IsGround (usual start)

-- files and a ground that can be linked
abbrev pub AreWithin : ℕ → Ground → Type 0
AreWithin files g = (files ≤ most_files) × IsGround g
