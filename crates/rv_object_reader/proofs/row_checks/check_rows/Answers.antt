use Rattle.std.proofs.Common.{◌≡◌, ◌+◌, ◌*◌, ◌/◌, length, None, Some, subst, ap, sym, ◌∙◌, arith}
use Rattle.std.specs.Prelude.{flat_map}
use Rattle.std.proofs.lemmas.Result.{err_from_is_err_and}
use Rattle.rv_elf_laws.specs.FirstFault.{first_true}
use Rattle.rv_object_file_laws.specs.FirstFault.{row_tests}
use Rattle.rv_object_file_laws.specs.Rows.{row_at, rows_in}
use Rattle.rv_object_reader.proofs.RecordsLemmas.{tests_step, tests_stop}
use Rattle.rv_object_reader.proofs.row_checks.check_rows.Goals as goal

pub loop-index-preserved : goal.loop-index-preserved
loop-index-preserved c =
    let bytes = c.contents-bytes.result.now in
    let i = c.loop-index.index in
    let tests = row_tests c.args.tables.now.names.view.file.now in
    let fine = subst (λ r. first_true (tests r) ≡ None) c.row_in.ensures c.in_ok-check_row.ensures.tests in
    record {
      faults = c.loop-index.invariant.faults
          ∙ tests_step tests row_at 32 (length bytes / 32) i (32 * i) (32 * (i + 1)) bytes (omega arith) (omega arith) fine;
      home = c.in_ok-check_row.ensures.home;
    }

pub returns-in_err-check_row : goal.returns-in_err-check_row
returns-in_err-check_row c =
    let bytes = c.contents-bytes.result.now in
    let i = c.loop-index.index in
    let tests = row_tests c.args.tables.now.names.view.file.now in
    let found = subst (λ r. first_true (tests r) ≡ Some c.in_err-check_row.field-0.0) c.row_in.ensures c.in_err-check_row.ensures.tests in
    let p = err_from_is_err_and c.from_residual.result c.from_residual.ensures.1 in
    rw (p.1, p.2) (
    ap (λ bs. first_true (flat_map tests (rows_in bs))) (sym c.contents-bytes.ensures) ∙ c.loop-index.invariant.faults
    ∙ tests_stop tests row_at 32 (length bytes / 32) i (32 * i) (32 * (i + 1)) bytes c.in_err-check_row.field-0.0 (omega arith) (omega arith) found)
