-- The names of an object that concern other objects (gABI, "Symbol Table"; GNU ld).

use Rattle.std.specs.Prelude.{ℕ, Bool, not, ◌&&◌, List, map, filter}
use Rattle.rv_archive_laws.specs.Taken.{ObjectNames}
use Rattle.rv_object_laws.specs.Bindings.{is_shared, is_global}
use Rattle.rv_object_laws.specs.Object.{Object, Symbol}
use Rattle.rv_link_laws.specs.Names.{is_defined, is_export}

-- it defines its name for all files, weakly or not
abbrev pub gives_name : Symbol → Bool
gives_name s = is_export is_shared s

-- it leaves its name to other objects, and does not do without
abbrev pub asks_name : Symbol → Bool
asks_name s = is_global s.binding && not (is_defined s.definition)

abbrev pub names_where : (Symbol → Bool) → List Symbol → List (List ℕ)
names_where test symbols = map (λ s. s.name) (filter test symbols)

abbrev pub names_said : Object → ObjectNames
names_said o = record {
  defined = names_where gives_name o.symbols;
  undefined = names_where asks_name o.symbols;
}
