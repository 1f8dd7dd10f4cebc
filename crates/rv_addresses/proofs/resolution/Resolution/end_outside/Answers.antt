use Rattle.std.proofs.Common.{◌≡◌, ◌-◌, Some, None, Option, option_map, ap, sym, ◌∙◌, arith}
use Rattle.rv_object_laws.specs.Object.{Symbol}
use Rattle.rv_names.specs.Chosen.{definer}
use Rattle.rv_names.specs.Names.{exported_of}
use Rattle.rv_names.proofs.ChosenLemmas.{chosen_at, chosen_none}
use Rattle.rv_addresses.specs.declared.resolution.Meant.{Meant}
use Rattle.rv_addresses.specs.Ended.{short_ended_from}
use Rattle.rv_addresses.specs.Extents.{sizes_in}
use Rattle.rv_addresses.specs.Meant.{meant_of}
use Rattle.rv_addresses.specs.Moved.{with_definition}
use Rattle.rv_addresses.proofs.EndsLemmas.{ends_named}
use Rattle.rv_addresses.proofs.resolution.Resolution.end_outside.Goals as goal

pub returns-in_err-exported : goal.returns-in_err-exported
returns-in_err-exported c = λ e s here there free.
    let sizes = sizes_in c.args.sizes.now in
    let ends = short_ended_from sizes 0 c.args.self.now.objects.now in
    let named = ends_named sizes c.args.self.now.objects.now c.args.self.now.names.now c.args.self.now.named in
    let none : option_map exported_of (definer ends s.name) ≡ None = sym (c.in_err-exported.ensures ends e s named here there free) in
    c.from_residual.ensures ∙ sym (ap (option_map meant_of) (chosen_none ends s.name none))

pub returns-in_err-definition : goal.returns-in_err-definition
returns-in_err-definition c = λ e s here there free.
    let sizes = sizes_in c.args.sizes.now in
    let ends = short_ended_from sizes 0 c.args.self.now.objects.now in
    let named = ends_named sizes c.args.self.now.objects.now c.args.self.now.names.now c.args.self.now.named in
    let x = c.in_ok-exported.exported in
    let found : option_map exported_of (definer ends s.name) ≡ Some x = sym (c.in_ok-exported.ensures ends e s named here there free) in
    let at = chosen_at ends s.name x found in
    absurd (let none : ◌≡◌ {A = Option Symbol} None (Some at.0.symbol) = c.in_err-definition.ensures at.0.object at.2.object ∙ at.2.symbol in cc)

pub returns : goal.returns
returns c = λ e s here there free.
    let sizes = sizes_in c.args.sizes.now in
    let ends = short_ended_from sizes 0 c.args.self.now.objects.now in
    let named = ends_named sizes c.args.self.now.objects.now c.args.self.now.names.now c.args.self.now.named in
    let x = c.in_ok-exported.exported in
    let found : option_map exported_of (definer ends s.name) ≡ Some x = sym (c.in_ok-exported.ensures ends e s named here there free) in
    let at = chosen_at ends s.name x found in
    let next = at.2.file in
    let file : x.file.0 ≡ at.0.file - 1 = omega (next, arith) in
    let meant : Symbol → Meant = λ y. record { file = x.file; definition = y.definition } in
    let same : Some (with_definition (c.in_ok-definition.field-0-0, c.in_ok-definition.definition)) ≡ Some at.0.symbol = c.in_ok-definition.ensures at.0.object at.2.object ∙ at.2.symbol in
    ap (option_map meant) same ∙ ap (λ n. Some (record { file = record { 0 = n }; definition = at.0.symbol.definition })) file ∙ sym (ap (option_map meant_of) at.1)
