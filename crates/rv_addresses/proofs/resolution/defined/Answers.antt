use Rattle.std.proofs.Common.{◌≡◌, ◌-◌, Some, None, Option, option_map, ap, ◌∙◌, arith}
use Rattle.rv_object_laws.specs.Object.{Symbol}
use Rattle.rv_addresses.specs.declared.resolution.Meant.{Meant}
use Rattle.rv_addresses.specs.Moved.{with_definition}
use Rattle.rv_addresses.proofs.resolution.defined.Goals as goal

pub returns-in_err-definition : goal.returns-in_err-definition
returns-in_err-definition c = λ e at.
    absurd (let none : ◌≡◌ {A = Option Symbol} None (Some e.symbol) = c.in_err-definition.ensures e.object at.object ∙ at.symbol in cc)

pub returns : goal.returns
returns c = λ e at.
    let next = at.file in
    let file : c.args.exported.file.0 ≡ e.file - 1 = omega (next, arith) in
    let meant : Symbol → Meant = λ s. record { file = c.args.exported.file; definition = s.definition } in
    let same : Some (with_definition (c.in_ok-definition.field-0-0, c.in_ok-definition.definition)) ≡ Some e.symbol = c.in_ok-definition.ensures e.object at.object ∙ at.symbol in
    ap (option_map meant) same ∙ ap (λ n. Some (record { file = record { 0 = n }; definition = e.symbol.definition })) file
