use Rattle.std.proofs.Common.{◌<◌, ◌^◌, length, arith}
use Rattle.rv_list_laws.proofs.OptionsLemmas.{of_if_some}
use Rattle.rv_map.specs.Views.{map_of}
use Rattle.rv_labels.specs.Known.{plain_names}
use Rattle.rv_debug.specs.Views.{AreTables}
use Rattle.rv_debug.proofs.WritingLemmas.{debug_file}
use Rattle.rv_debug.proofs.writing.with_debug.Goals as goal

pub returns-clause-written : goal.returns-clause-written
returns-clause-written c =
    let short : length c.args.exe.now < 2 ^ 32 = omega (arith, c.if-exe-ge-TOO_LONG.false) in
    debug_file c.args.exe.now (map_of c.args.map.now) (plain_names c.args.names.now) c.args.directory.now c.args.sources.now c.in_ok-file.file.items
    c.in-Some.places c.in-Some-2.tables c.in-Some.ensures.stored c.in-Some.ensures.known c.in-Some.ensures.opens c.in-Some.ensures.grows
    short
    (of_if_some (AreTables (map_of c.args.map.now) (plain_names c.args.names.now) c.args.directory.now c.args.sources.now) _ c.in-Some-2.tables
    c.in-Some-2.is c.in_ok-tables.ensures.some) c.in_ok-file.ensures

pub returns-clause-found : goal.returns-clause-found
returns-clause-found c = c.debug_file_is_read.ensures _ _ _ _ _ _ (returns-clause-written c)
