-- The bytes of the strings so far.
use Rattle.std.proofs.Common.{◌≡◌, ◌-◌, ◌^◌, min, length, map, take}
use Rattle.rv_statement.specs.View.{quoted}
use Rattle.rv_unit_laws.specs.Tables.{string_bytes}
use Rattle.rv_unit.proofs.align.strings_size.Given as goal

abbrev pub invariant-loop-text : goal.invariant-loop-text
invariant-loop-text l = l.size ≡ min (length (string_bytes l.ended (map quoted (take l.text-index l.strings)))) (2 ^ 64 - 1)
