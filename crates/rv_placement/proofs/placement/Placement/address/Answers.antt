use Rattle.std.proofs.Common.{◌∙◌, sym, map}
use Rattle.rv_shorten.specs.Sections.{short_section_of}
use Rattle.rv_shorten.specs.View.{short_object_of}
use Rattle.rv_placement.proofs.FoundLemmas.{not_placed, address_none, address_unloaded, address_is}
use Rattle.rv_placement.proofs.placement.Placement.address.Goals as goal

pub returns-in_err-placed : goal.returns-in_err-placed
returns-in_err-placed c bounds o is at =
    absurd (not_placed (map short_object_of c.args.objects.now) bounds c.args.self.now is c.args.place.file.0 c.args.place.section.0 (short_section_of c.in_ok-stands.stands.now) (sym c.in_ok-stands.ensures) (sym (c.in_err-placed.ensures)))

pub returns-in_err-stands : goal.returns-in_err-stands
returns-in_err-stands c bounds o is at =
    c.from_residual.ensures ∙ address_none (map short_object_of c.args.objects.now) c.args.place.file.0 c.args.place.section.0 o _ c.args.place.offset at (c.in_err-stands.ensures)

pub returns-then-not-stands : goal.returns-then-not-stands
returns-then-not-stands c bounds o is at =
    address_unloaded (map short_object_of c.args.objects.now) c.args.place.file.0 c.args.place.section.0 o _ c.args.place.offset (short_section_of c.in_ok-stands.stands.now) at c.in_ok-stands.ensures c.if-not-stands.true

pub returns : goal.returns
returns c bounds o is at =
    address_is (map short_object_of c.args.objects.now) bounds c.args.self.now is c.args.place.file.0 c.args.place.section.0 o c.args.place.offset c.new_offset.result (short_section_of c.in_ok-stands.stands.now) c.in_ok-placed.placed.now at
    c.in_ok-stands.ensures (c.in_ok-placed.ensures) c.if-not-stands.false c.new_offset.ensures
