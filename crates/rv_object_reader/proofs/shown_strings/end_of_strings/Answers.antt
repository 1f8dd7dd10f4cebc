use Rattle.std.proofs.Common.{sym}
use Rattle.rv_object_reader.proofs.ShownStringsLemmas.{none_end, last_end}
use Rattle.rv_object_reader.proofs.shown_strings.end_of_strings.Goals as goal

pub returns-in-Some : goal.returns-in-Some
returns-in-Some c =
    sym (last_end c.args.table.now c.in-Some.last c.in-Some.ensures.0.high c.in-Some.ensures.1 c.in-Some.ensures.0.after)

pub returns-in-None : goal.returns-in-None
returns-in-None c = sym (none_end c.args.table.now c.in-None.ensures)
