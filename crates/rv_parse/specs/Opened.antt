-- The names that a source has opened, as the code holds them.

use Rattle.std.specs.Prelude.{◌≡◌, ℕ, Bool, List}
use Rattle.std.specs.Str.{bytes_eq}
use Rattle.std.specs.List.{list_any}
use Rattle.std.specs.Borrow.{Bor}
use Rattle.std.specs.HashSet.{HashSet}
use Rattle.std.specs.declared.hash.FoldHasher.{FoldHasher}
use Rattle.std.specs.declared.hash.BuildHasherDefault.{BuildHasherDefault}
use Rattle.rv_statement_laws.specs.Statement.{Statement}
use Rattle.rv_parse_laws.specs.Opening.{opens}

abbrev pub NameSet : Type 0
NameSet = HashSet (Bor (List ℕ)) (BuildHasherDefault FoldHasher)

-- the set has the names that pass a test
abbrev pub Has : NameSet → (List ℕ → Bool) → Type 0
Has set test = (q : Bor (List ℕ)) → list_any (λ k. bytes_eq q.now k.now) set.keys ≡ test q.now

-- a statement opened or entered the section of this name
abbrev pub is_had : List Statement → List ℕ → Bool
is_had ss name = list_any (λ (s : Statement). opens name s.kind) ss

-- the set has the names that the statements opened or entered
abbrev pub Knows : NameSet → List Statement → Type 0
Knows set ss = Has set (λ name. is_had ss name)
