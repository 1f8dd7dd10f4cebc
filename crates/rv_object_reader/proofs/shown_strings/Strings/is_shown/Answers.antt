use Rattle.std.proofs.Common.{nat_lt, ◌&&◌, ap, ◌∙◌}
use Rattle.rv_object_reader.specs.Names.{is_unshown}
use Rattle.rv_object_reader.proofs.ShownStringsLemmas.{not_shown, shown_until}
use Rattle.rv_object_reader.proofs.shown_strings.Strings.is_shown.Goals as goal

pub is_zero-requires : goal.is_zero-requires
is_zero-requires c = (c.in-Some.ensures is_unshown c.args.self.now.table.now (c.deref.ensures.value ∙ c.args.self.now.hidden)).0.high

pub returns-in-Some : goal.returns-in-Some
returns-in-Some c =
    c.both.ensures ∙ ap (λ b. nat_lt c.args.offset c.in-Some.end && b) c.is_zero.ensures
    ∙ shown_until c.args.self.now.table.now c.args.offset c.in-Some.end (c.in-Some.ensures is_unshown c.args.self.now.table.now (c.deref.ensures.value ∙ c.args.self.now.hidden))

pub returns-in-None : goal.returns-in-None
returns-in-None c =
    not_shown c.args.self.now.table.now c.args.offset (c.in-None.ensures is_unshown c.args.self.now.table.now (c.deref.ensures.value ∙ c.args.self.now.hidden))
