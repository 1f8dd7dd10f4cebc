use Rattle.std.proofs.Common.{◌≡◌, length}
use Rattle.rv_lexer.specs.Cursor.{remaining}
use Rattle.rv_debug_sources.specs.Reading.{found_with}
use Rattle.rv_debug_sources.proofs.source.read.Given as goal

abbrev pub invariant-loop-reader : goal.invariant-loop-reader
invariant-loop-reader l = found_with l.reader (remaining l.cursor) ≡ found_with l.initial.reader (remaining l.initial.cursor)

abbrev pub decreases-loop-reader : goal.decreases-loop-reader
decreases-loop-reader l = length (remaining l.cursor)
