-- The exit status of runs (this program's own).

use Rattle.std.specs.Prelude.{ℕ}
use Rattle.rv_machine.specs.declared.end.End.{End}
use Rattle.rv_machine.specs.declared.end.End.TheVariants.{Exited}

-- the guest did not exit
abbrev pub not_exited : ℕ
not_exited = 125

-- the status of a run is the guest's, where it has one
abbrev pub run_status : End → ℕ
run_status (Exited code) = code
run_status _ = not_exited
