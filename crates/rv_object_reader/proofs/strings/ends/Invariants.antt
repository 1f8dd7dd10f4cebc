use Rattle.std.proofs.Common.{◌≡◌, ◌++◌, ◌-◌, length}
use Rattle.memchr.specs.Find.{is_byte, places, places_from}
use Rattle.rv_object_reader.proofs.strings.ends.Given as goal

-- the positions so far, with those of the bytes that are left
abbrev pub invariant-loop-offset : goal.invariant-loop-offset
invariant-loop-offset l = l.ends.items ++ places_from (is_byte 0) l.table l.offset (length l.table - l.offset) ≡ places (is_byte 0) l.table
