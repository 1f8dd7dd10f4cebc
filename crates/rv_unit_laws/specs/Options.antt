-- What `.option` sets, and what it keeps (GNU as, "RISC-V-Directives", `.option`).

use Rattle.std.specs.Prelude.{Bool, true, false, List, ◌∷◌, drop, slice_index_or}
use Rattle.rv_statement_laws.specs.declared.directive.Choice.{Choice}
use Rattle.rv_statement_laws.specs.declared.directive.Choice.TheVariants.{Rvc, Norvc, Relax, Norelax, Push, Pop}

-- whether instructions may be compressed, and whether the linker may relax them
pub record Options : Type 0 where
  pub rvc : Bool
  pub relax : Bool

-- a source begins with both on
abbrev pub first_options : Options
first_options = record { rvc = true; relax = true }

-- the options after a choice, where these were kept, the latest first; a pop without its push
-- changes nothing
abbrev pub options_then : Options → List Options → Choice → Options
options_then o kept Rvc = record { rvc = true; relax = o.relax }
options_then o kept Norvc = record { rvc = false; relax = o.relax }
options_then o kept Relax = record { rvc = o.rvc; relax = true }
options_then o kept Norelax = record { rvc = o.rvc; relax = false }
options_then o kept Pop = slice_index_or kept 0 o
options_then o kept _ = o

-- and what is kept then
abbrev pub kept_then : Options → List Options → Choice → List Options
kept_then o kept Push = o ∷ kept
kept_then o kept Pop = drop 1 kept
kept_then o kept _ = kept
