-- Which symbol a name means in all files (gABI, "Symbol Table", STB_GLOBAL, STB_WEAK).

use Rattle.std.specs.Prelude.{ℕ, suc, Bool, ◌&&◌, List, [], ◌∷◌, ◌++◌, map, Option, bytes_eq, if◌then◌else◌}
use Rattle.std.specs.List.{find}
use Rattle.rv_object_laws.specs.declared.symbol.Binding.{Binding}
use Rattle.rv_object_laws.specs.Object.{Symbol, Object}
use Rattle.rv_object_laws.specs.Bindings.{is_global, is_weak}
use Rattle.rv_link_laws.specs.Names.{is_defined, is_sure}

-- what names depend on of a symbol: all but where its definition stands
pub record Seen : Type 0 where
  pub name : List ℕ
  pub binding : Binding
  pub defined : Bool
  pub sure : Bool

abbrev pub seen : Symbol → Seen
seen s = record {
  name = s.name;
  binding = s.binding;
  defined = is_defined s.definition;
  sure = is_sure s;
}

-- of the symbols of objects, file by file
abbrev pub seen_of : List Object → List (List Seen)
seen_of os = map (λ o. map seen o.symbols) os

-- a symbol that defines a name for all files, by its file and its index there, both from 0
pub record Definer : Type 0 where
  pub name : List ℕ
  pub file : ℕ
  pub symbol : ℕ

-- those of a binding
abbrev pub definers_at : (Binding → Bool) → (file index : ℕ) → Seen → List Definer
definers_at test file index s =
    if test s.binding && s.defined
    then record { name = s.name; file = file; symbol = index } ∷ [] else []

abbrev pub definers_in : (Binding → Bool) → (file index : ℕ) → List Seen → List Definer
definers_in test file index [] = []
definers_in test file index (s ∷ ss) =
    definers_at test file index s ++ definers_in test file (suc index) ss

abbrev pub definers_from : (Binding → Bool) → (file : ℕ) → List (List Seen) → List Definer
definers_from test file [] = []
definers_from test file (ss ∷ files) =
    definers_in test file 0 ss ++ definers_from test (suc file) files

-- all of them, in the order that decides: global ones before weak ones, and each by file and then
-- in the order of the symbols
abbrev pub definers_of : List (List Seen) → List Definer
definers_of files = definers_from is_global 0 files ++ definers_from is_weak 0 files

abbrev pub definitions : List Object → List Definer
definitions os = definers_of (seen_of os)

abbrev pub names_in : List Definer → List (List ℕ)
names_in ds = map (λ d. d.name) ds

-- the first of a name
abbrev pub first_named : List Definer → List ℕ → Option Definer
first_named ds name = find (λ d. bytes_eq d.name name) ds

-- what a name means in all files
abbrev pub definer : List Object → List ℕ → Option Definer
definer os name = first_named (definitions os) name
