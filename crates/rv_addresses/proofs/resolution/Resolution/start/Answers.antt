use Rattle.std.proofs.Common.{◌≡◌, ◌∙◌, Some, None, option_map, map, ap, sym}
use Rattle.rv_shorten.specs.View.{short_object_of}
use Rattle.rv_names.specs.Chosen.{definer}
use Rattle.rv_names.specs.Names.{exported_of}
use Rattle.rv_addresses.specs.Meant.{meant_of}
use Rattle.rv_names.proofs.ChosenLemmas.{chosen_at, chosen_none}
use Rattle.rv_link_laws.proofs.EntryLemmas.{start_name}
use Rattle.rv_addresses.proofs.resolution.Resolution.start.Goals as goal

pub returns-in-Some : goal.returns-in-Some
returns-in-Some c =
    let os = map short_object_of c.args.self.now.objects.now in
    let x = c.in-Some.exported in
    let found : option_map exported_of (definer os start_name) ≡ Some x =
    sym (c.named.ensures os c.args.self.now.named) ∙ c.in-Some.is in
    let at = chosen_at os start_name x found in
    c.defined.ensures at.0 at.2 ∙ sym (ap (option_map meant_of) at.1)

pub returns-in-None : goal.returns-in-None
returns-in-None c =
    let os = map short_object_of c.args.self.now.objects.now in
    let none : option_map exported_of (definer os start_name) ≡ None =
    sym (c.named.ensures os c.args.self.now.named) ∙ c.in-None.is in
    sym (ap (option_map meant_of) (chosen_none os start_name none))
