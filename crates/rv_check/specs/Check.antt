-- What a report begins with (this program's own).

use Rattle.std.specs.Prelude.{◌≡◌, ℕ, Bool, List, Option, Some, None}
use Rattle.rv_fault.specs.declared.fault.Fault.{Fault}
use Rattle.rv_link_laws.specs.declared.bounds.Ground.{Ground}
use Rattle.rv_chain.specs.Refusals.{AreGood, IsRefusedFor}
use Rattle.rv_check.specs.declared.report.Finding.{Finding}

-- the first finding is of this fault
abbrev pub HasFirst : Option Finding → Fault → Type 0
HasFirst None fault = ⊥
HasFirst (Some finding) fault = finding.fault ≡ fault

-- the first finding is of the fault for which a build of these texts is refused;
-- without one they have none
abbrev pub BeginsWithFaultOf : List (List ℕ) → Ground → Bool → Bool → Option Finding → Type 0
BeginsWithFaultOf texts bounds relax gc None = AreGood texts bounds
BeginsWithFaultOf texts bounds relax gc (Some finding) =
    IsRefusedFor texts bounds relax gc finding.fault
