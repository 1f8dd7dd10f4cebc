use Rattle.std.proofs.lemmas.Result.{err_from_is_err_and}
use Rattle.rv_object_reader.specs.Tests.{size_tests, link_tests}
use Rattle.rv_elf_laws.specs.FirstTrue.{first_true_some}
use Rattle.rv_object_reader.proofs.section_checks.check_section.Goals as goal

pub returns-in_err-check_size-clause-faults : goal.returns-in_err-check_size-clause-faults
returns-in_err-check_size-clause-faults c =
    let file = c.args.names.now.view.file.now in
    let p = err_from_is_err_and c.from_residual.result c.from_residual.ensures.1 in
    rw (p.1, p.2) (first_true_some (size_tests file c.args.symbols c.args.rows c.args.header.now) (link_tests file c.args.header.now) _ c.in_err-check_size.ensures)
