use Rattle.std.proofs.Common.{ℕ, List, Bool, take}
use Rattle.std.specs.Prelude.{◌||◌}
use Rattle.rv_archive_laws.specs.Taken.{has_name}
use Rattle.rv_inputs.specs.Plain.{plain_texts}
use Rattle.rv_inputs.specs.Standing.{StandBy}
use Rattle.rv_inputs.proofs.asking.give_all.Given as goal

-- the names so far are defined
abbrev pub invariant-loop-i : goal.invariant-loop-i
invariant-loop-i l =
    (given wanted : List ℕ → Bool) → StandBy l.fn.standings given wanted
    → StandBy l.standings (λ q. given q || has_name (plain_texts (take l.i l.names)) q) wanted
