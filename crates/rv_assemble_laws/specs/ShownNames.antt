-- Names that a map can show (GNU as, "Symbol Names"; this project's maps).

use Rattle.std.specs.Prelude.{◌≡◌, ℕ, Bool, true, List, [], ◌∷◌, ◌++◌, flat_map}
use Rattle.std.specs.List.{list_all}
use Rattle.rv_expression_laws.specs.Expression.{Primary, Symbol, Tree, Leaf, Unary, Paren, Binary}
use Rattle.rv_statement_laws.specs.Statement.{StatementKind, Label, Directs, Statement, Binds, Sets, Opens}
use Rattle.rv_map_laws.specs.Name.{is_name}
use Rattle.rv_source_laws.specs.Program.{expressions}
use Rattle.rv_assemble_laws.specs.Symbols.{SymbolUse}

abbrev pub primary_names : Primary → List (List ℕ)
primary_names (Symbol name) = name ∷ []
primary_names _ = []

-- the names in an expression
abbrev pub tree_names : Tree → List (List ℕ)
tree_names (Leaf p) = primary_names p
tree_names (Unary o x) = tree_names x
tree_names (Paren x) = tree_names x
tree_names (Binary o x y) = tree_names x ++ tree_names y

-- the names that a label or a directive says beside its values
abbrev pub own_names : StatementKind → List (List ℕ)
own_names (Label name) = name ∷ []
own_names (Directs (Sets name e)) = name ∷ tree_names e
own_names (Directs (Binds binding names)) = names
own_names (Directs (Opens name flags kind)) = name ∷ []
own_names _ = []

-- the names that a statement says
abbrev pub said_names : StatementKind → List (List ℕ)
said_names kind = own_names kind ++ flat_map tree_names (expressions kind)

abbrev pub are_shown : List (List ℕ) → Bool
are_shown names = list_all is_name names

-- a map can show each name that the statements say
abbrev pub HasNames : List Statement → Type 0
HasNames ss = list_all (λ s. are_shown (said_names s.kind)) ss ≡ true

-- the names that relocations name
abbrev pub used_names : List SymbolUse → List (List ℕ)
used_names rs = flat_map (λ r. primary_names r.symbol) rs

-- a map can show each of these too
abbrev pub is_shown_use : SymbolUse → Bool
is_shown_use r = are_shown (primary_names r.symbol)

abbrev pub AreShown : List SymbolUse → Type 0
AreShown rs = list_all is_shown_use rs ≡ true
