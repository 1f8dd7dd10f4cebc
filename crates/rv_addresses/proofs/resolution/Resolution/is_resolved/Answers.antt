use Rattle.std.proofs.Common.{◌≡◌, true, false, map, refl, ap, sym, ◌∙◌}
use Rattle.std.specs.Prelude.{if◌then◌else◌}
use Rattle.rv_object_types.specs.Parts.{symbol_of}
use Rattle.rv_link_laws.specs.Names.{is_sure, chosen}
use Rattle.rv_cut_laws.specs.Cutting.{cut_symbol}
use Rattle.rv_shorten.specs.View.{short_object_of}
use Rattle.rv_link_laws.specs.Undefined.{has_address, is_known}
use Rattle.rv_addresses.proofs.CutsLemmas.{address_cut, sure_cut}
use Rattle.rv_addresses.proofs.MeantLemmas.{known_resolved}
use Rattle.rv_addresses.proofs.resolution.Resolution.is_resolved.Goals as goal

pub returns-then-is_sure : goal.returns-then-is_sure
returns-then-is_sure c = λ o cuts at there.
    let s = cut_symbol cuts (symbol_of c.args.symbol.now) in
    let sure : is_sure s ≡ true = sure_cut cuts c.args.symbol.now.binding c.args.symbol.now.definition ∙ sym c.is_sure.ensures ∙ c.if-is_sure.true in
    c.has_address.ensures o at ∙ sym (address_cut o cuts c.args.symbol.now.definition)
    ∙ sym (ap (λ b. if b then has_address o s.definition else is_known s (chosen (map short_object_of c.args.self.now.objects.now) s.name)) sure)

pub returns : goal.returns
returns c = λ o cuts at there.
    let s = cut_symbol cuts (symbol_of c.args.symbol.now) in
    let unsure : is_sure s ≡ false = sure_cut cuts c.args.symbol.now.binding c.args.symbol.now.definition ∙ sym c.is_sure.ensures ∙ c.if-is_sure.false in
    c.is_known.ensures o s at there unsure refl refl ∙ known_resolved (map short_object_of c.args.self.now.objects.now) o s unsure
