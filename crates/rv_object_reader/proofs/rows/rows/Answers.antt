use Rattle.std.proofs.Common.{subst, ap, sym, ◌∙◌}
use Rattle.std.specs.List.{AllByRecursion}
use Rattle.rv_object_file_laws.specs.Parts.{row_records_of}
use Rattle.rv_object_file_laws.specs.Rows.{rows_in}
use Rattle.rv_object_reader.proofs.MadeLemmas.{IsHome, rows_home}
use Rattle.rv_object_reader.proofs.rows.rows.Goals as goal

pub rows_in-requires : goal.rows_in-requires
rows_in-requires c =
    let checked = c.args.checked.now in
    let file = checked.view.file.now in
    subst (AllByRecursion (IsHome file)) (ap (row_records_of file) c.in-Some.ensures.found ∙ ap rows_in (sym c.section.ensures)) (rows_home file checked.good)
