use Rattle.std.proofs.Common.{◌≡◌, ◌∙◌, ◌++◌, List, map, ap}
use Rattle.std.proofs.lemmas.List.{reverse-reverse}
use Rattle.rv_map.specs.Views.{global_of}
use Rattle.rv_object_laws.specs.declared.symbol.Binding.TheVariants.{Local}
use Rattle.rv_labels.specs.declared.known.KnownName.{KnownName}
use Rattle.rv_labels.specs.Known.{known_of}
use Rattle.rv_debug_laws.specs.Labels.{known_global}
use Rattle.rv_table_names.specs.Tables.{defined_names, table_global, wanted_names}
use Rattle.rv_table_names.specs.Views.{tabled_of}
use Rattle.rv_table_names.proofs.link.table_names.Goals as goal

pub returns : goal.returns
returns c =
    let os = map tabled_of c.args.objects.now in
    let gs = map global_of c.args.globals.now in
    let globals : map known_of c.in_ok-globals.globals.items ≡ map (table_global (defined_names os)) gs =
    c.in_ok-globals.ensures ∙ (λ i. map (known_global (map known_of (c.as_slice.ensures.value i))) gs)
    ∙ (λ i. map (known_global (c.in_ok-defined.ensures i)) gs)
    ∙ (λ i. map (table_global (reverse-reverse (defined_names os) i)) gs) in
    let labels : map known_of c.put_names.new.names.items ≡ wanted_names Local os =
    c.in_ok-put_names.ensures ∙ ap (λ (l : List KnownName). map known_of l ++ wanted_names Local os) c.new-labels.ensures.items in
    λ i. record { labels = labels i; globals = globals i }
