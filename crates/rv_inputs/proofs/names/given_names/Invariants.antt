use Rattle.std.proofs.Common.{◌≡◌, map, take}
use Rattle.rv_inputs.specs.Plain.{plain_texts}
use Rattle.rv_object_types.specs.Parts.{symbol_of}
use Rattle.rv_inputs.specs.Names.{gives_name, names_where}
use Rattle.rv_inputs.proofs.names.given_names.Given as goal

-- the names of the symbols so far
abbrev pub invariant-loop-i : goal.invariant-loop-i
invariant-loop-i l = plain_texts l.names.items ≡ names_where gives_name (map symbol_of (take l.i l.symbols))
