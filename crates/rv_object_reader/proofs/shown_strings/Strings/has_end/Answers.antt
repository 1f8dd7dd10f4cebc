use Rattle.std.proofs.Common.{ap, ◌∙◌}
use Rattle.std.specs.Prelude.{nat_lt}
use Rattle.rv_object_reader.proofs.ShownStringsLemmas.{has_end}
use Rattle.rv_object_reader.proofs.shown_strings.Strings.has_end.Goals as goal

pub returns : goal.returns
returns c =
    ap (λ offset. nat_lt offset c.args.self.now.end) c.from.ensures ∙ ap (nat_lt c.args.offset) c.args.self.now.ended ∙ has_end c.args.self.now.table.now c.args.offset
