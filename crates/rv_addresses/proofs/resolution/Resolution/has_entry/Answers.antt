use Rattle.std.proofs.Common.{◌≡◌, ◌∙◌, None, option_map, map, ap, sym}
use Rattle.rv_list_laws.proofs.OptionsLemmas.{option_map_none}
use Rattle.rv_link_laws.specs.Names.{chosen, can_begin}
use Rattle.rv_shorten.specs.View.{short_object_of}
use Rattle.rv_addresses.specs.declared.resolution.Meant.{Meant}
use Rattle.rv_link_laws.specs.Entry.{is_entry}
use Rattle.rv_addresses.specs.Meant.{meant_of}
use Rattle.rv_link_laws.proofs.EntryLemmas.{start_name}
use Rattle.rv_addresses.proofs.MeantLemmas.{kept_held}
use Rattle.rv_addresses.proofs.resolution.Resolution.has_entry.Goals as goal

pub returns-in-Some : goal.returns-in-Some
returns-in-Some c =
    let os = map short_object_of c.args.self.now.objects.now in
    let x = c.in-Some.meant in
    let k = kept_held os start_name x (sym c.start.ensures ∙ c.in-Some.is) in
    c.can_begin.ensures k.export.object k.at ∙ sym (ap is_entry k.found ∙ ap (λ (y : Meant). can_begin k.export.object y.definition) k.same)

pub returns-in-None : goal.returns-in-None
returns-in-None c =
    let os = map short_object_of c.args.self.now.objects.now in
    let found : option_map meant_of (chosen os start_name) ≡ None = sym c.start.ensures ∙ c.in-None.is in
    sym (ap is_entry (option_map_none meant_of (chosen os start_name) found))
