use Rattle.std.proofs.Common.{◌≡◌, ◌*◌, ◌-◌, ◌/◌, length}
use Rattle.std.specs.Prelude.{flat_map}
use Rattle.rv_elf_laws.specs.FirstFault.{first_true}
use Rattle.rv_elf_laws.specs.Sections.{records}
use Rattle.rv_object_file_laws.specs.FirstFault.{row_tests}
use Rattle.rv_object_file_laws.specs.Parts.{kept_at}
use Rattle.rv_object_file_laws.specs.Rows.{row_at, rows_in}
use Rattle.rv_object_reader.specs.Rows.{room_of}
use Rattle.rv_object_reader.proofs.row_checks.check_rows.Given as goal

-- the first fault of all rows is that of those that are left
abbrev pub invariant-loop-index : goal.invariant-loop-index
invariant-loop-index l = record {
  faults : first_true (flat_map (row_tests l.tables.names.view.file.now) (rows_in l.bytes))
      ≡ first_true (flat_map (row_tests l.tables.names.view.file.now) (records row_at 32 (length l.bytes / 32 - l.index) (32 * l.index) l.bytes));
  home : l.home.size ≡ room_of (kept_at l.tables.names.view.file.now l.home.index);
}
