use Rattle.std.proofs.Common.{rules}
use Rattle.rv_pseudo.proofs.RowsLemmas.{distance_high_put, distance_low_put, open_put}
use Rattle.rv_pseudo.proofs.number.relocation.Goals as goal

pub returns-in-Some-PcrelHi-Some : goal.returns-in-Some-PcrelHi-Some
returns-in-Some-PcrelHi-Some c =
    distance_high_put c.args.function c.args.value c.args.store c.kind_of.result _ (search rules) c.in-Some-PcrelHi-Some.is-1 c.kind_of.ensures

pub returns-in-Some-PcrelLo-Some : goal.returns-in-Some-PcrelLo-Some
returns-in-Some-PcrelLo-Some c =
    distance_low_put c.args.function c.args.value c.args.store c.kind_of-in-Some-PcrelLo-Some.result _ (search rules) c.in-Some-PcrelLo-Some.is-1
    c.kind_of-in-Some-PcrelLo-Some.ensures

pub returns-in-Some-None : goal.returns-in-Some-None
returns-in-Some-None c =
    open_put c.args.function c.args.value c.args.store c.kind_of-in-Some-None.result _ (search rules) (search rules)
    c.kind_of-in-Some-None.ensures
