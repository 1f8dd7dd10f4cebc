use Rattle.std.proofs.Common.{◌≡◌, ◌∙◌, map, rules}
use Rattle.rv_map.specs.Views.{global_of, map_of}
use Rattle.rv_labels.specs.Known.{plain_names}
use Rattle.rv_table_names.specs.Tables.{table_names}
use Rattle.rv_debug.specs.Refused.{IsTextOf}
use Rattle.rv_debug.specs.Views.{plain_tables}
use Rattle.rv_debug.proofs.TextLemmas.{refused_by}
use Rattle.rv_debug.proofs.text.debug_file_of_tables.Goals as goal

pub returns-clause-refuses : goal.returns-clause-refuses
returns-clause-refuses c =
    let m = map_of c.in-Some.map in
    let objects = plain_tables c.args.objects.now in
    let text : IsTextOf c.args.map.now m = search rules in
    let same : plain_names c.in_ok-names.names ≡ table_names objects m.globals =
    c.in_ok-names.ensures ∙ (λ i. table_names objects (map global_of (c.as_slice.ensures.value i))) in
    refused_by c.args.exe.now c.args.map.now (λ n. table_names objects n.globals) c.args.directory.now c.args.sources.now m _ text same c.with_debug.result c.with_debug.ensures.refuses
