use Rattle.std.proofs.Common.{◌*◌, ◌-◌, length, drop, ap, ◌∙◌, le_of_eq}
use Rattle.std.proofs.lemmas.List.{length-drop, take_all}
use Rattle.rv_elf_laws.specs.Records.{symbol_at}
use Rattle.rv_object_reader.proofs.SymbolFieldsLemmas.{symbol_behind}
use Rattle.rv_debug_sections.proofs.records.record_from.Goals as goal

pub returns : goal.returns
returns c =
    let bytes = c.args.bytes.now in
    let p = 24 * c.args.index in
    c.symbol_in.ensures ∙ ap (symbol_at 0) (take_all (length bytes - p) (drop p bytes) (le_of_eq (length-drop p bytes))) ∙ symbol_behind p bytes
