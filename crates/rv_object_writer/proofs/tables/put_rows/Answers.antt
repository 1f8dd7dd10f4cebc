use Rattle.std.proofs.Common.{ℕ, List, refl}
use Rattle.rv_list_laws.proofs.TakeDropLemmas.{joined_done}
use Rattle.rv_object_laws.specs.declared.row.Row.{Row}
use Rattle.rv_object_file_laws.specs.Rows.{row_bytes}
use Rattle.rv_object_file_laws.specs.Written.{row_record}
use Rattle.rv_object_writer.specs.Pieces.{rows_bytes}
use Rattle.rv_object_writer.proofs.StepsLemmas.{step}
use Rattle.rv_object_writer.proofs.tables.put_rows.Goals as goal

abbrev written : Row → List ℕ
written row = row_bytes (row_record row)

pub loop-row-preserved : goal.loop-row-preserved
loop-row-preserved c =
    step rows_bytes written (λ y ys. refl) c.args.rows.now c.loop-row.row-index _ _ c.loop-row-test.true refl _ _ _
    c.in_ok-put_row.ensures c.loop-row.invariant

pub returns : goal.returns
returns c = joined_done rows_bytes refl c.args.rows.now c.loop-row.row-index c.loop-row-test.false _ _ c.loop-row.invariant
