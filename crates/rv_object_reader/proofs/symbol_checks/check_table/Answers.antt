use Rattle.std.proofs.Common.{◌≡◌, ◌+◌, ◌*◌, ◌-◌, ◌/◌, length, None, Some, subst, ap, sym, ◌∙◌, arith}
use Rattle.std.specs.Prelude.{flat_map}
use Rattle.std.proofs.lemmas.Result.{err_from_is_err_and}
use Rattle.rv_elf_laws.specs.FirstFault.{first_true}
use Rattle.rv_elf_laws.specs.Records.{symbol_at}
use Rattle.rv_elf_laws.specs.Sections.{records}
use Rattle.rv_object_file_laws.specs.FirstFault.{symbol_tests}
use Rattle.rv_object_reader.proofs.RecordsLemmas.{records_behind, tests_step, tests_stop}
use Rattle.rv_object_reader.proofs.symbol_checks.check_table.Goals as goal

pub loop-earlier-init : goal.loop-earlier-init
loop-earlier-init c =
    let bytes = c.args.bytes.now in
    ap (λ rs. first_true (flat_map (symbol_tests c.args.view.now.file.now c.args.names.now.table.now) rs))
    (records_behind symbol_at 24 (length bytes / 24) 24 bytes (omega arith)
    ∙ ap (λ m. records symbol_at 24 (m - 0) 24 bytes) (sym c.saturating_sub-others.ensures))

pub loop-earlier-preserved : goal.loop-earlier-preserved
loop-earlier-preserved c =
    let i = c.loop-earlier.earlier in
    let tests = symbol_tests c.args.view.now.file.now c.args.names.now.table.now in
    let fine = subst (λ s. first_true (tests s) ≡ None) c.symbol_from-symbol.ensures c.in_ok-check_symbol.ensures in
    c.loop-earlier.invariant
    ∙ tests_step tests symbol_at 24 c.saturating_sub-others.result i (24 * (i + 1)) (24 * (i + 1 + 1)) c.args.bytes.now
    c.loop-earlier-test.true (omega arith) fine

pub returns-in_err-check_symbol : goal.returns-in_err-check_symbol
returns-in_err-check_symbol c =
    let file = c.args.view.now.file.now in
    let names = c.args.names.now.table.now in
    let i = c.loop-earlier.earlier in
    let tests = symbol_tests file names in
    let found = subst (λ s. first_true (tests s) ≡ Some c.in_err-check_symbol.field-0.0) c.symbol_from-symbol.ensures c.in_err-check_symbol.ensures in
    let p = err_from_is_err_and c.from_residual.result c.from_residual.ensures.1 in
    rw (p.1, p.2) (
    c.loop-earlier.invariant
    ∙ tests_stop tests symbol_at 24 c.saturating_sub-others.result i (24 * (i + 1)) (24 * (i + 1 + 1)) c.args.bytes.now
    c.in_err-check_symbol.field-0.0 c.loop-earlier-test.true (omega arith) found)
