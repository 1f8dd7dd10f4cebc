use Rattle.std.proofs.Common.{◌≡◌, ◌++◌, ◌-◌, length}
use Rattle.memchr.specs.Find.{places, places_from}
use Rattle.rv_object_reader.specs.Names.{is_unshown}
use Rattle.rv_object_reader.proofs.shown_strings.unshown.Given as goal

-- the positions so far, with those of the bytes that are left
abbrev pub invariant-loop-offset : goal.invariant-loop-offset
invariant-loop-offset l = l.all.items ++ places_from is_unshown l.table l.offset (length l.table - l.offset) ≡ places is_unshown l.table
