use Rattle.std.proofs.Common.{◌≡◌, ◌+◌, map, drop}
use Rattle.rv_object_types.specs.Parts.{symbol_of}
use Rattle.rv_object_file_laws.specs.Written.{locals}
use Rattle.rv_object_writer.proofs.tables.locals.Given as goal

abbrev pub invariant-loop-i : goal.invariant-loop-i
invariant-loop-i l = l.i + locals (map symbol_of (drop l.i l.symbols)) ≡ locals (map symbol_of l.symbols)
