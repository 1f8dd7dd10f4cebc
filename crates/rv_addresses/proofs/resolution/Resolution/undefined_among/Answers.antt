use Rattle.std.proofs.Common.{◌<◌, length, map, option_map, get_or, rules, ap, sym, ◌∙◌}
use Rattle.std.proofs.lemmas.List.{get_or_default}
use Rattle.rv_object_laws.specs.Object.{Relocation}
use Rattle.rv_object_types.specs.Parts.{relocation_of, zeros_relocation}
use Rattle.rv_shorten.specs.View.{short_object_of}
use Rattle.rv_addresses.specs.Meant.{name_bytes}
use Rattle.rv_link_laws.specs.Undefined.{undefined_name}
use Rattle.rv_link_laws.proofs.FirstSomeLemmas.{none_here, one_here}
use Rattle.rv_addresses.proofs.resolution.Resolution.undefined_among.Goals as goal

pub loop-relocation-preserved : goal.loop-relocation-preserved
loop-relocation-preserved c = λ at.
    let i = c.loop-relocation.relocation-index in
    let xs = c.args.relocations.now in
    let inside : i < length xs = search rules in
    none_here (λ (r : Relocation). undefined_name (map short_object_of c.args.self.now.objects.now) (short_object_of c.args.object.now) r.symbol) relocation_of xs i (get_or xs i zeros_relocation) inside
    (get_or_default xs i zeros_relocation (get_or xs i zeros_relocation) inside)
    (sym (c.undefined_name.ensures at) ∙ ap (option_map name_bytes) c.in-None.is)
    ∙ c.loop-relocation.invariant at

pub returns-in-Some : goal.returns-in-Some
returns-in-Some c = λ at.
    let i = c.loop-relocation.relocation-index in
    let xs = c.args.relocations.now in
    let inside : i < length xs = search rules in
    one_here (λ (r : Relocation). undefined_name (map short_object_of c.args.self.now.objects.now) (short_object_of c.args.object.now) r.symbol) relocation_of xs i (get_or xs i zeros_relocation) _ inside
    (get_or_default xs i zeros_relocation (get_or xs i zeros_relocation) inside)
    (sym (c.undefined_name.ensures at) ∙ ap (option_map name_bytes) c.in-Some.is)
    ∙ c.loop-relocation.invariant at
