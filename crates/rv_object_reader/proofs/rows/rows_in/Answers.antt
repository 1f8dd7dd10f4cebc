use Rattle.std.proofs.Common.{◌+◌, ◌*◌, ◌-◌, ◌/◌, length, subst, sym, ap, ◌∙◌, arith}
use Rattle.rv_elf_laws.specs.Sections.{records}
use Rattle.rv_object_file_laws.specs.ObjectOf.{row_in}
use Rattle.rv_object_file_laws.specs.Rows.{row_at, rows_in}
use Rattle.rv_object_laws.proofs.CountedLemmas.{counted_next}
use Rattle.rv_object_reader.proofs.MadeLemmas.{IsHome, records_next, first_good, so_far_next}
use Rattle.rv_object_reader.proofs.rows.rows_in.Goals as goal

pub row-requires : goal.row-requires
row-requires c =
    let file = c.args.checked.now.view.file.now in
    let bytes = c.args.bytes.now in let count = length bytes / 32 in let i = c.loop-index.index in
    subst (IsHome file) (sym c.row_in.ensures)
    (first_good (IsHome file) (row_in file) (rows_in bytes) c.loop-index.rows.items (row_at (32 * i) bytes)
    _ (records row_at 32 (count - (i + 1)) (32 * (i + 1)) bytes) c.loop-index.invariant.0
    (records_next row_at 32 count i (32 * i) (32 * (i + 1)) bytes (omega arith) (omega arith)))

pub loop-index-preserved : goal.loop-index-preserved
loop-index-preserved c =
    let file = c.args.checked.now.view.file.now in
    let bytes = c.args.bytes.now in let count = length bytes / 32 in let i = c.loop-index.index in
    let rows = c.loop-index.rows.items in let new = c.push.new.self.items in (
      so_far_next (IsHome file) (row_in file) (rows_in bytes) rows new (row_at (32 * i) bytes) c.row.result
          _ (records row_at 32 (count - (i + 1)) (32 * (i + 1)) bytes) c.loop-index.invariant.0
          (records_next row_at 32 count i (32 * i) (32 * (i + 1)) bytes (omega arith) (omega arith))
          (c.row.ensures.made ∙ ap (row_in file) c.row_in.ensures) c.in_ok-push.ensures.items,
      counted_next rows new c.row.result c.loop-index.invariant.1 c.row.ensures.counted c.in_ok-push.ensures.items,
    )
