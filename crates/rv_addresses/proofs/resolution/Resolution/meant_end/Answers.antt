use Rattle.std.proofs.Common.{◌≡◌, true, false, ap, sym, ◌∙◌}
use Rattle.std.specs.Prelude.{Some, if◌then◌else◌, option_map}
use Rattle.rv_link_laws.specs.Names.{is_sure, is_sure_by, chosen}
use Rattle.rv_addresses.specs.Ended.{short_ended_from}
use Rattle.rv_addresses.specs.Extents.{sizes_in}
use Rattle.rv_addresses.specs.Meant.{meant_of}
use Rattle.rv_addresses.proofs.resolution.Resolution.meant_end.Goals as goal

pub returns-then-is_sure : goal.returns-then-is_sure
returns-then-is_sure c = λ e s here there binding same.
    let ends = short_ended_from (sizes_in c.args.sizes.now) 0 c.args.self.now.objects.now in
    let sure : is_sure s ≡ true = ap (λ b. is_sure_by b s.definition) binding ∙ ap (is_sure_by c.args.binding) same ∙ sym c.is_sure.ensures ∙ c.if-is_sure.true in
    sym
    (ap (λ b. if b then Some (record { file = c.args.file; definition = s.definition }) else option_map meant_of (chosen ends s.name)) sure
    ∙ ap (λ d. Some (record { file = c.args.file; definition = d })) same)

pub returns : goal.returns
returns c = λ e s here there binding same.
    let ends = short_ended_from (sizes_in c.args.sizes.now) 0 c.args.self.now.objects.now in
    let unsure : is_sure s ≡ false = ap (λ b. is_sure_by b s.definition) binding ∙ ap (is_sure_by c.args.binding) same ∙ sym c.is_sure.ensures ∙ c.if-is_sure.false in
    c.end_outside.ensures e s here there unsure
    ∙ sym (ap (λ b. if b then Some (record { file = c.args.file; definition = s.definition }) else option_map meant_of (chosen ends s.name)) unsure)
