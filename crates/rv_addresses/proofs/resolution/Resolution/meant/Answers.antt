use Rattle.std.proofs.Common.{◌≡◌, true, false, map, ap, sym, ◌∙◌}
use Rattle.std.specs.Prelude.{Some, if◌then◌else◌, option_map}
use Rattle.rv_link_laws.specs.Names.{is_sure, is_sure_by, chosen}
use Rattle.rv_shorten.specs.View.{short_object_of}
use Rattle.rv_addresses.specs.Meant.{meant_of}
use Rattle.rv_addresses.proofs.resolution.Resolution.meant.Goals as goal

pub returns-then-is_sure : goal.returns-then-is_sure
returns-then-is_sure c = λ o s here there binding same.
    let sure : is_sure s ≡ true = ap (λ b. is_sure_by b s.definition) binding ∙ ap (is_sure_by c.args.binding) same ∙ sym c.is_sure.ensures ∙ c.if-is_sure.true in
    sym
    (ap (λ b. if b then Some (record { file = c.args.file; definition = s.definition }) else option_map meant_of (chosen (map short_object_of c.args.self.now.objects.now) s.name)) sure
    ∙ ap (λ d. Some (record { file = c.args.file; definition = d })) same)

pub returns : goal.returns
returns c = λ o s here there binding same.
    let unsure : is_sure s ≡ false = ap (λ b. is_sure_by b s.definition) binding ∙ ap (is_sure_by c.args.binding) same ∙ sym c.is_sure.ensures ∙ c.if-is_sure.false in
    c.meant_outside.ensures o s here there unsure
    ∙ sym (ap (λ b. if b then Some (record { file = c.args.file; definition = s.definition }) else option_map meant_of (chosen (map short_object_of c.args.self.now.objects.now) s.name)) unsure)
