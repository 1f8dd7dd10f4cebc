use Rattle.std.proofs.Common.{◌≡◌, true, false, ◌∙◌, arith}
use Rattle.std.specs.Prelude.{◌==◌}
use Rattle.std.proofs.lemmas.Bool.Decides.{nat_tests}
use Rattle.std.proofs.lemmas.Result.{err_from_is_err_and}
use Rattle.rv_elf_laws.specs.Fields.{number_in, e_type}
use Rattle.rv_elf_laws.specs.Numbers.{et_rel}
use Rattle.rv_object_reader.proofs.OpeningLemmas.{header_stops, type_stops, tables_are, names_inside}
use Rattle.rv_object_reader.proofs.checking.open.Goals as goal

pub returns-in_err-file_type-clause-faults : goal.returns-in_err-file_type-clause-faults
returns-in_err-file_type-clause-faults c =
    let p = err_from_is_err_and c.from_residual.result c.from_residual.ensures.1 in
    rw (p.1, p.2) (header_stops c.args.file.now c.in_err-file_type.field-0.0 c.in_err-file_type.ensures.faults)

pub returns-then-branch-ne-ET_REL-clause-faults : goal.returns-then-branch-ne-ET_REL-clause-faults
returns-then-branch-ne-ET_REL-clause-faults c =
    let other : (number_in e_type 0 c.args.file.now == et_rel) ≡ false = grind (arith, nat_tests, c.in_ok-file_type.ensures.value, c.if-branch-ne-ET_REL.true) in
    type_stops c.args.file.now c.in_ok-file_type.ensures.faults other

pub returns-in_err-view-clause-faults : goal.returns-in_err-view-clause-faults
returns-in_err-view-clause-faults c =
    let object : (number_in e_type 0 c.args.file.now == et_rel) ≡ true = grind (arith, nat_tests, c.in_ok-file_type.ensures.value, c.if-branch-ne-ET_REL.false) in
    let p = err_from_is_err_and c.from_residual-in_err-view.result c.from_residual-in_err-view.ensures.1 in
    rw (p.1, p.2) (tables_are c.args.file.now c.in_ok-file_type.ensures.faults object ∙ c.in_err-view.ensures.faults)

pub returns-clause-faults : goal.returns-clause-faults
returns-clause-faults c =
    let object : (number_in e_type 0 c.args.file.now == et_rel) ≡ true = grind (arith, nat_tests, c.in_ok-file_type.ensures.value, c.if-branch-ne-ET_REL.false) in
    tables_are c.args.file.now c.in_ok-file_type.ensures.faults object ∙ c.in_ok-view.ensures.faults

pub returns-clause-named : goal.returns-clause-named
returns-clause-named c = names_inside c.args.file.now c.in_ok-view.ensures.faults
