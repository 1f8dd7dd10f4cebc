use Rattle.std.proofs.Common.{◌∙◌}
use Rattle.rv_object_reader.proofs.SymbolFieldsLemmas.{found_or_short_of}
use Rattle.rv_object_reader.proofs.symbol_checks.check_symbols.Goals as goal

pub returns : goal.returns
returns c =
    found_or_short_of c.args.view.now.file.now c.in_ok-names.names.table.now _ c.contents.result.now _ c.check_table.result
    (c.in_ok-names.ensures ∙ c.section.ensures) c.contents.ensures c.check_table.ensures
