use Rattle.std.proofs.Common.{◌≡◌, length}
use Rattle.rv_lexer.specs.Cursor.{remaining}
use Rattle.rv_marks.specs.Reading.{read_with}
use Rattle.rv_marks.proofs.source.marks.Given as goal

abbrev pub invariant-loop-reader : goal.invariant-loop-reader
invariant-loop-reader l = read_with l.reader (remaining l.cursor) ≡ read_with l.initial.reader (remaining l.initial.cursor)

abbrev pub decreases-loop-reader : goal.decreases-loop-reader
decreases-loop-reader l = length (remaining l.cursor)
