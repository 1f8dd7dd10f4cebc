-- No statement opens the section of an object's rows, which no source may open (this project's
-- refusals).

use Rattle.std.specs.Prelude.{◌≡◌, Bool, true, List}
use Rattle.std.specs.List.{list_all}
use Rattle.rv_statement_laws.specs.Statement.{StatementKind, Directs, Statement, Opens}
use Rattle.rv_object_laws.specs.Valid.{is_kept_name}
use Rattle.rv_assemble_laws.specs.ShownNames.{HasNames}

abbrev pub opens_kept : StatementKind → Bool
opens_kept (Directs (Opens name flags kind)) = is_kept_name name
opens_kept _ = true

abbrev pub OpenOthers : List Statement → Type 0
OpenOthers ss = list_all (λ s. opens_kept s.kind) ss ≡ true

-- and the names of those that they open can be shown
abbrev pub OpenKept : List Statement → Type 0
OpenKept ss = OpenOthers ss × HasNames ss
