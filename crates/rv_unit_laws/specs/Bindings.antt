-- Which files can mean a name (GNU as, ".global", ".local" and ".weak"; gABI, "Symbol Table").
--
-- What is said of a name holds for the whole source, for the statements before it too: so it is
-- gathered before all else.

use Rattle.std.specs.Prelude.{ℕ, Bool, true, false, List, [], ◌∷◌, if◌then◌else◌}
use Rattle.std.specs.List.{list_any}
use Rattle.std.specs.Str.{bytes_eq}
use Rattle.rv_statement_laws.specs.Statement.{StatementKind, Directs, Statement, Binds}
use Rattle.rv_statement_laws.specs.declared.directive.Binding.{Binding}
use Rattle.rv_statement_laws.specs.declared.directive.Binding.TheVariants.{Local, Global, Weak}

-- the binding of each name
abbrev pub Bindings : Type 0
Bindings = List ℕ → Binding

-- a name of which no statement says a binding is local
abbrev pub all_local : Bindings
all_local name = Local

-- names that are given a binding; others keep theirs
abbrev pub bound : Binding → List (List ℕ) → Bindings → Bindings
bound binding names before name =
    if list_any (λ n. bytes_eq n name) names then binding else before name

-- the bindings after a statement
abbrev pub bound_by : StatementKind → Bindings → Bindings
bound_by (Directs (Binds binding names)) before = bound binding names before
bound_by _ before = before

-- the bindings after statements: of those that list a name the last holds
abbrev pub bindings_after : List Statement → Bindings → Bindings
bindings_after [] before = before
bindings_after (s ∷ ss) before = bindings_after ss (bound_by s.kind before)

-- the bindings of a source
abbrev pub bindings_of : List Statement → Bindings
bindings_of ss = bindings_after ss all_local

-- another file can mean the name
abbrev pub is_shared : Binding → Bool
is_shared Local = false
is_shared Global = true
is_shared Weak = true

-- it has one definition among all files
abbrev pub is_global : Binding → Bool
is_global Local = false
is_global Global = true
is_global Weak = false

-- a file's own definition of it gives way to a global one, and a name without any is 0
abbrev pub is_weak : Binding → Bool
is_weak Local = false
is_weak Global = false
is_weak Weak = true
