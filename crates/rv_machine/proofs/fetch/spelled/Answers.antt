use Rattle.std.proofs.Common.{◌%◌, sym, ap, ◌∙◌}
use Rattle.rv_machine.specs.Fetch.{spelled_at}
use Rattle.rv_machine.proofs.FetchLemmas.{picked, passed}
use Rattle.rv_machine.proofs.fetch.spelled.Goals as goal

pub returns-then-bits-eq3 : goal.returns-then-bits-eq3
returns-then-bits-eq3 c reader =
    c.by_word.ensures reader ∙ sym (picked _ _ _ (c.in-Some.bits % 4) c.if-bits-eq3.true (ap (spelled_at reader) c.in-Some.is))

pub returns-else-bits-eq3 : goal.returns-else-bits-eq3
returns-else-bits-eq3 c reader =
    c.by_parcel.ensures reader ∙ sym (passed _ _ _ (c.in-Some.bits % 4) c.if-bits-eq3.false (ap (spelled_at reader) c.in-Some.is))
