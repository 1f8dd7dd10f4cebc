use Rattle.std.proofs.Common.{◌≡◌, ◌++◌, ℕ, List, map, drop}
use Rattle.rv_object_laws.specs.Object.{Symbol}
use Rattle.rv_object_types.specs.Parts.{symbol_of}
use Rattle.rv_object_file_laws.specs.Written.{unseen, strings_of}
use Rattle.rv_object_writer.specs.Strings.{IsStringTable}
use Rattle.rv_object_writer.proofs.names.symbol_names.Given as goal

abbrev pub invariant-loop-symbol : goal.invariant-loop-symbol
invariant-loop-symbol l =
    (strings : List (List ℕ)) × IsStringTable strings l.names
    × (strings ++ unseen strings (map (λ (s : Symbol). s.name) (map symbol_of (drop l.symbol-index l.symbols))) ≡ strings_of (map (λ (s : Symbol). s.name) (map symbol_of l.symbols)))
