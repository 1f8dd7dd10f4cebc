use Rattle.std.proofs.Common.{◌≡◌, ◌*◌, ◌-◌, ◌/◌, true, length}
use Rattle.rv_elf_laws.specs.Sections.{records}
use Rattle.rv_object_laws.specs.Valid.{are_counted}
use Rattle.rv_object_file_laws.specs.ObjectOf.{row_in}
use Rattle.rv_object_file_laws.specs.Rows.{row_at, rows_in}
use Rattle.rv_object_reader.proofs.MadeLemmas.{SoFar, IsHome}
use Rattle.rv_object_reader.proofs.rows.rows_in.Given as goal

-- the rows so far, and those of the records that are left
abbrev pub invariant-loop-index : goal.invariant-loop-index
invariant-loop-index l =
    let file = l.checked.view.file.now in
    SoFar (IsHome file) (row_in file) (rows_in l.bytes) l.rows.items (records row_at 32 (length l.bytes / 32 - l.index) (32 * l.index) l.bytes)
    × (are_counted l.rows.items ≡ true)
