use Rattle.std.proofs.Common.{◌∙◌, sym}
use Rattle.rv_object_reader.proofs.WalkingLemmas.{relas_done}
use Rattle.rv_object_reader.proofs.walk.check_records.Goals as goal

pub returns-then-is_rela : goal.returns-then-is_rela
returns-then-is_rela c before i was =
    relas_done _ c.args.tables.now.names.view.file.now before c.args.header.now c.check_target.result
    (sym c.is_symbol_table.ensures ∙ c.if-is_symbol_table.false) (sym c.is_rela.ensures ∙ c.if-is_rela.true) (c.check_target.ensures before i was)
