use Rattle.std.proofs.Common.{◌∙◌, ap}
use Rattle.std.specs.Prelude.{option_map}
use Rattle.rv_map.specs.Views.{global_of}
use Rattle.rv_debug_laws.specs.Labels.{global_by}
use Rattle.rv_labels.specs.Indices.{by_name}
use Rattle.rv_labels.specs.Known.{known_of}
use Rattle.rv_labels.proofs.globals.known_global.Goals as goal

pub returns-in-Some : goal.returns-in-Some
returns-in-Some c = λ names are.
    let g = global_of c.args.global.now in
    c.global_by.ensures c.in-Some.known.now.name.now
    ∙ ap (global_by g) (ap (option_map known_of) (c.in-Some.ensures.value ∙ ap (by_name c.args.last.now) c.as_slice.ensures.value) ∙ are g.name)

pub returns-in-None : goal.returns-in-None
returns-in-None c = λ names are.
    let g = global_of c.args.global.now in
    c.plain_global.ensures
    ∙ ap (global_by g) (ap (option_map known_of) (c.in-None.ensures.value ∙ ap (by_name c.args.last.now) c.as_slice.ensures.value) ∙ are g.name)
