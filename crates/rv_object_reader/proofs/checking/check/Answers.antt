use Rattle.std.proofs.Common.{inr, ◌∙◌}
use Rattle.std.proofs.lemmas.Result.{err_from_is_err_and}
use Rattle.rv_object_reader.proofs.OpeningLemmas.{opening_fails, sections_pass, sections_fail}
use Rattle.rv_object_reader.proofs.checking.check.Goals as goal

pub returns-in_err-view : goal.returns-in_err-view
returns-in_err-view c =
    let p = err_from_is_err_and c.from_residual.result c.from_residual.ensures.1 in
    rw (p.1, p.2) (inr (opening_fails c.args.file.now c.in_err-view.field-0.0 c.in_err-view.ensures.faults))

pub returns-in_err-check_sections : goal.returns-in_err-check_sections
returns-in_err-check_sections c =
    let same = c.in_ok-tables.ensures ∙ c.of.ensures ∙ c.in_ok-view.ensures.file in
    let p = err_from_is_err_and c.from_residual-in_err-check_sections.result c.from_residual-in_err-check_sections.ensures.1 in
    rw (p.1, p.2) (sections_fail c.args.file.now c.in_ok-tables.tables.names.view.file.now same c.in_ok-view.ensures.faults
    c.in_err-check_sections.field-0.0 c.in_err-check_sections.ensures)

pub checked-requires : goal.checked-requires
checked-requires c =
    let same = c.in_ok-tables.ensures ∙ c.of.ensures ∙ c.in_ok-view.ensures.file in
    sections_pass c.args.file.now c.in_ok-tables.tables.names.view.file.now same c.in_ok-view.ensures.faults c.in_ok-check_sections.ensures
