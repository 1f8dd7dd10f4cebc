use Rattle.std.proofs.Common.{◌≡◌, None, map, option_map, ap, sym, ◌∙◌}
use Rattle.std.specs.Prelude.{◌||◌}
use Rattle.rv_list_laws.proofs.OptionsLemmas.{option_map_none}
use Rattle.rv_map_laws.specs.Globals.{is_one_of}
use Rattle.rv_object_types.specs.Parts.{symbol_of}
use Rattle.rv_object_laws.specs.Bindings.{is_weak}
use Rattle.rv_link_laws.specs.Names.{chosen}
use Rattle.rv_shorten.specs.View.{short_object_of}
use Rattle.rv_addresses.specs.declared.resolution.Meant.{Meant}
use Rattle.rv_addresses.specs.Meant.{meant_of}
use Rattle.rv_link_laws.specs.Undefined.{has_address, is_known, linker_names}
use Rattle.rv_addresses.proofs.MeantLemmas.{kept_held}
use Rattle.rv_addresses.proofs.resolution.Resolution.is_known.Goals as goal

pub returns-in-Some : goal.returns-in-Some
returns-in-Some c = λ o s at there unsure named bound.
    let os = map short_object_of c.args.self.now.objects.now in
    let k = kept_held os s.name c.in-Some.meant (sym (c.meant_outside.ensures o s at there unsure) ∙ c.in-Some.is) in
    c.has_address.ensures k.export.object k.at ∙ sym (ap (is_known s) k.found ∙ ap (λ (y : Meant). has_address k.export.object y.definition) k.same)

pub returns-in-None : goal.returns-in-None
returns-in-None c = λ o s at there unsure named bound.
    let os = map short_object_of c.args.self.now.objects.now in
    let own = symbol_of c.args.symbol.now in
    let found : option_map meant_of (chosen os s.name) ≡ None = sym (c.meant_outside.ensures o s at there unsure) ∙ c.in-None.is in
    c.is_given.ensures
    ∙ sym
    (ap (is_known s) (option_map_none meant_of (chosen os s.name) found) ∙ ap (λ n. is_one_of linker_names n || is_weak s.binding) named
    ∙ ap (λ b. is_one_of linker_names own.name || is_weak b) bound)
