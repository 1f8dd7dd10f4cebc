-- The names that statements define, and which of them other files can mean (GNU as, ".global" and
-- ".weak"; gABI, "Symbol Table").

use Rattle.std.specs.Prelude.{ℕ, Bool, not, ◌&&◌, ◌==◌, List, [], ◌∷◌, filter, is_some, bytes_eq, if◌then◌else◌}
use Rattle.std.specs.List.{list_any}
use Rattle.rv_statement_laws.specs.Statement.{StatementKind, Label, Directs, Sets}
use Rattle.rv_statement_laws.specs.declared.directive.Binding.{Binding}
use Rattle.rv_unit_laws.specs.Tables.{Tables, Assignment, assigned_before}
use Rattle.rv_source_laws.specs.Located.{Located}

-- a `.set` at an ordinal gives a name for the first time
abbrev pub sets_first : List Assignment → ℕ → List ℕ → Bool
sets_first assignments ordinal name =
    list_any (λ s. (s.ordinal == ordinal) && bytes_eq s.name name) assignments
    && not (is_some (assigned_before assignments ordinal name))

-- the name that a statement defines: a label's, or one that `.set` gives for the first time
abbrev pub defined_name : Tables → ℕ → StatementKind → List (List ℕ)
defined_name t ordinal (Label name) = name ∷ []
defined_name t ordinal (Directs (Sets name e)) =
    if sets_first t.assignments ordinal name then name ∷ [] else []
defined_name t ordinal _ = []

-- that name where its binding passes a test, by the tables of the file
abbrev pub names_where : (Binding → Bool) → Tables → Located → List (List ℕ)
names_where test t s =
    filter (λ name. test (t.bindings name)) (defined_name t s.ordinal s.kind)
