use Rattle.std.proofs.Common.{◌≡◌, ◌∙◌, Some, None, option_map, map, ap, sym}
use Rattle.std.specs.Prelude.{option_and_then}
use Rattle.rv_object_types.specs.View.{object_of}
use Rattle.rv_link_laws.specs.Collects.{run_place}
use Rattle.rv_names.specs.Chosen.{definer}
use Rattle.rv_names.specs.Names.{exported_of}
use Rattle.rv_names.proofs.ChosenLemmas.{chosen_at, chosen_none}
use Rattle.rv_link_laws.proofs.EntryLemmas.{start_name}
use Rattle.rv_names.proofs.names.Names.entry_place.Goals as goal

pub returns-in-Some : goal.returns-in-Some
returns-in-Some c = λ h.
    let os = map object_of c.args.objects.now in
    let x = c.in-Some.exported in
    let found : option_map exported_of (definer os start_name) ≡ Some x =
    sym (c.named.ensures os h) ∙ c.in-Some.is in
    let at = chosen_at os start_name x found in
    c.run_place.ensures at.0 at.2 ∙ sym (ap (option_and_then run_place) at.1)

pub returns-in-None : goal.returns-in-None
returns-in-None c = λ h.
    let os = map object_of c.args.objects.now in
    let none : option_map exported_of (definer os start_name) ≡ None =
    sym (c.named.ensures os h) ∙ c.in-None.is in
    sym (ap (option_and_then run_place) (chosen_none os start_name none))
