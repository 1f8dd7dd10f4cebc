-- What is shown so far, and the bytes that are left, make up the name.
use Rattle.std.proofs.Common.{◌≡◌, ◌++◌, drop}
use Rattle.std.specs.Prelude.{flat_map, string_bytes}
use Rattle.rv_system.specs.Messages.{shown_byte, shown_name}
use Rattle.rv_system.proofs.shown.shown_name.Given as goal

abbrev pub invariant-loop-byte : goal.invariant-loop-byte
invariant-loop-byte l = string_bytes l.shown ++ flat_map shown_byte (drop l.byte-index l.name) ≡ shown_name l.name
