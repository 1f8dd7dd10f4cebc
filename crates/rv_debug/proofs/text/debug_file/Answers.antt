use Rattle.std.proofs.Common.{◌≡◌, ◌∙◌, map, rules}
use Rattle.rv_map.specs.Views.{global_of, map_of}
use Rattle.rv_labels.specs.Known.{plain_names}
use Rattle.rv_debug_laws.specs.Labels.{link_names}
use Rattle.rv_debug.specs.Refused.{IsTextOf}
use Rattle.rv_debug.specs.Views.{plain_objects}
use Rattle.rv_debug.proofs.TextLemmas.{refused_by}
use Rattle.rv_debug.proofs.text.debug_file.Goals as goal

pub returns-clause-refuses : goal.returns-clause-refuses
returns-clause-refuses c =
    let m = map_of c.in-Some.map in
    let text : IsTextOf c.args.map.now m = search rules in
    let same : plain_names c.in_ok-names.names ≡ link_names m.rows m.globals (plain_objects c.args.objects.now) =
    c.in_ok-names.ensures ∙ (λ i. link_names (c.as_slice.ensures.value i) (map global_of (c.as_slice-2.ensures.value i)) (plain_objects c.args.objects.now)) in
    refused_by c.args.exe.now c.args.map.now (λ n. link_names n.rows n.globals (plain_objects c.args.objects.now)) c.args.directory.now c.args.sources.now m _ text same c.with_debug.result c.with_debug.ensures.refuses
