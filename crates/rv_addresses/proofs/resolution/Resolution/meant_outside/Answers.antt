use Rattle.std.proofs.Common.{◌≡◌, Some, None, map, option_map, ap, sym, ◌∙◌}
use Rattle.rv_shorten.specs.View.{short_object_of}
use Rattle.rv_names.specs.Chosen.{definer}
use Rattle.rv_names.specs.Names.{exported_of}
use Rattle.rv_addresses.specs.Meant.{meant_of}
use Rattle.rv_names.proofs.ChosenLemmas.{chosen_at, chosen_none}
use Rattle.rv_addresses.proofs.resolution.Resolution.meant_outside.Goals as goal

pub returns-in_err-exported : goal.returns-in_err-exported
returns-in_err-exported c = λ o s here there free.
    let os = map short_object_of c.args.self.now.objects.now in
    let none : option_map exported_of (definer os s.name) ≡ None =
    sym (c.in_err-exported.ensures os o s c.args.self.now.named here there free) in
    c.from_residual.ensures ∙ sym (ap (option_map meant_of) (chosen_none os s.name none))

pub returns : goal.returns
returns c = λ o s here there free.
    let os = map short_object_of c.args.self.now.objects.now in
    let x = c.in_ok-exported.exported in
    let found : option_map exported_of (definer os s.name) ≡ Some x =
    sym (c.in_ok-exported.ensures os o s c.args.self.now.named here there free) in
    let at = chosen_at os s.name x found in
    c.defined.ensures at.0 at.2 ∙ sym (ap (option_map meant_of) at.1)
