use Rattle.std.proofs.Common.{◌∙◌, ◌++◌, List, map, reverse, ap}
use Rattle.rv_list_laws.proofs.MapLemmas.{map_reversed}
use Rattle.rv_object_laws.specs.declared.symbol.Binding.TheVariants.{Global, Weak}
use Rattle.rv_labels.specs.declared.known.KnownName.{KnownName}
use Rattle.rv_labels.specs.Known.{known_of}
use Rattle.rv_table_names.specs.Tables.{wanted_names}
use Rattle.rv_table_names.specs.Views.{tabled_of}
use Rattle.rv_table_names.proofs.link.defined_names.Goals as goal

pub returns : goal.returns
returns c =
    let os = map tabled_of c.args.objects.now in
    ap (map known_of) c.reverse.ensures.items ∙ map_reversed known_of c.put_names-2.new.names.items
    ∙ ap reverse (c.in_ok-put_names-2.ensures ∙ ap (λ l. l ++ wanted_names Weak os)
    (c.in_ok-put_names.ensures ∙ ap (λ (l : List KnownName). map known_of l ++ wanted_names Global os) c.new-names.ensures.items))
