use Rattle.std.proofs.Common.{◌≡◌, ◌++◌, drop}
use Rattle.rv_object_writer.specs.Pieces.{rows_bytes}
use Rattle.rv_object_writer.proofs.tables.put_rows.Given as goal

abbrev pub invariant-loop-row : goal.invariant-loop-row
invariant-loop-row l = l.out ++ rows_bytes (drop l.row-index l.rows) ≡ l.fn.out ++ rows_bytes l.rows
