use Rattle.std.proofs.Common.{◌≡◌, ◌<◌, ◌^◌, length, ap, arith}
use Rattle.std.proofs.lemmas.List.{length-map}
use Rattle.rv_list_laws.proofs.OptionsLemmas.{of_if_some}
use Rattle.rv_map.specs.Views.{map_of}
use Rattle.rv_labels.specs.Known.{known_of, plain_names}
use Rattle.rv_debug_laws.specs.Symbols.{string_table}
use Rattle.rv_debug_laws.specs.Units.{AddUnits, no_debug}
use Rattle.rv_debug_laws.proofs.SymbolsLemmas.{length-table}
use Rattle.rv_debug.specs.Views.{debug_of}
use Rattle.rv_debug.proofs.WritingLemmas.{few_labels}
use Rattle.rv_debug.proofs.writing.tables_of.Goals as goal

pub overflow_cast-result : goal.overflow_cast-result
overflow_cast-result c =
    let short : length c.in_ok-strings.strings.items < 2 ^ 32 = omega (arith, c.len.ensures, c.if-len-ge-TOO_LONG.false, c.in_ok-strings.strings.ok.0) in
    let few = few_labels c.args.names.now.labels.items c.args.names.now.globals.items c.in_ok-strings.strings.items c.in_ok-strings.ensures short in
    omega (arith, few, c.len-2.ensures, c.args.names.now.labels.ok.0)

pub returns-clause-some : goal.returns-clause-some
returns-clause-some c =
    let m = map_of c.args.map.now in
    let names = plain_names c.args.names.now in
    let short : length c.in_ok-strings.strings.items < 2 ^ 32 = omega (arith, c.len.ensures, c.if-len-ge-TOO_LONG.false, c.in_ok-strings.strings.ok.0) in
    let few = few_labels c.args.names.now.labels.items c.args.names.now.globals.items c.in_ok-strings.strings.items c.in_ok-strings.ensures short in
    let strings : c.in_ok-strings.strings.items ≡ string_table names = c.in_ok-strings.ensures in
    let named : length (string_table names) < 2 ^ 32 = omega (arith, short, ap length strings) in
    let table = length-table m names named in
    let sizes = c.is_long.ensures.no c.if-is_long.false in
    record {
      locals = let long = length-map c.args.names.now.labels.items known_of in omega (arith, long, c.len-2.ensures, c.args.names.now.labels.ok.0);
      symbols = c.in_ok-symbols.ensures.symbols;
      strings = strings;
      units = of_if_some (λ d. AddUnits (map_of c.args.map.now) c.args.directory.now 1 c.args.sources.now no_debug (debug_of d)) _ c.in-Some.debug c.in-Some.is
          c.in_ok-debug.ensures.some;
      short = record {
        locals = omega (arith, few, c.len-2.ensures, c.args.names.now.labels.ok.0);
        symbols = omega (arith, table, ap length c.in_ok-symbols.ensures.symbols);
        strings = short;
        lines = sizes.0;
        info = sizes.1;
        ranges = sizes.2;
      };
      labelled = c.in_ok-symbols.ensures.labels;
      known = c.in_ok-symbols.ensures.globals;
    }
