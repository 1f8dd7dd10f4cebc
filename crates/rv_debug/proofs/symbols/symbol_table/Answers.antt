use Rattle.std.proofs.Common.{◌∙◌, length, ap, arith}
use Rattle.rv_map.specs.Views.{map_of}
use Rattle.rv_labels.specs.Known.{plain_names}
use Rattle.rv_debug.specs.Views.{known_list}
use Rattle.rv_debug_laws.specs.Symbols.{name_strings}
use Rattle.rv_debug.proofs.SymbolsLemmas.{names_fit, symbols_joined}
use Rattle.rv_debug.proofs.symbols.symbol_table.Goals as goal

pub put_symbols-requires-clause-room : goal.put_symbols-requires-clause-room
put_symbols-requires-clause-room c =
    let fit = names_fit (name_strings (plain_names c.args.names.now).labels) (name_strings (plain_names c.args.names.now).globals) c.requires in
    let labels = ap (λ ls. length (name_strings (known_list ls))) c.as_slice.ensures.value in
    omega (arith, fit.0, labels)

pub put_symbols-requires-2-clause-room : goal.put_symbols-requires-2-clause-room
put_symbols-requires-2-clause-room c =
    let fit = names_fit (name_strings (plain_names c.args.names.now).labels) (name_strings (plain_names c.args.names.now).globals) c.requires in
    let labels = ap (λ ls. length (name_strings (known_list ls))) c.as_slice.ensures.value in
    let globals = ap (λ ls. length (name_strings (known_list ls))) c.as_slice-2.ensures.value in
    omega (arith, fit.1, labels, globals, c.in_ok-name.ensures.next)

pub returns-clause-symbols : goal.returns-clause-symbols
returns-clause-symbols c =
    c.finish.ensures
    ∙ symbols_joined (map_of c.args.map.now) (plain_names c.args.names.now) _ _ _ _ _ _ _ (ap known_list c.as_slice.ensures.value) (ap known_list c.as_slice-2.ensures.value)
    c.new-out.ensures c.in_ok-zeros.ensures.ok c.in_ok-name.ensures.written c.in_ok-name.ensures.next c.in_ok-put_symbols.ensures.written
