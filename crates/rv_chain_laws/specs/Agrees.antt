-- When a source run and a run of the machine agree.

use Rattle.std.specs.Prelude.{◌≡◌, ◌⊎◌}
use Rattle.rv_isa_laws.specs.Hart.{Outcome, Astray}
use Rattle.rv_isa_laws.specs.Console.{IsFront}

-- they are equal; or the source run went to the inside of a statement, and so far the console is
-- the same
abbrev pub Agrees : Outcome → Outcome → Type 0
Agrees source machine =
    (source ≡ machine) ⊎ ((source.«end» ≡ Astray) × IsFront source.console machine.console)
