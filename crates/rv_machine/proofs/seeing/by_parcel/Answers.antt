use Rattle.rv_machine.specs.Fetch.{spelled_by}
use Rattle.rv_machine.proofs.AskingLemmas.{seen_of, parcel_asks}
use Rattle.rv_machine.proofs.seeing.by_parcel.Goals as goal

pub returns-in-Some : goal.returns-in-Some
returns-in-Some g c = λ r input console.
    seen_of c.goes_on.result c.goes_on.new.accesses (spelled_by r c.args.bits) c.in-Some.action 2 c.args.hart.now c.goes_on.new.hart (g.M.Memory.mem c.args.memory.now) (g.M.Memory.mem c.goes_on.new.memory) input console
    (parcel_asks r c.args.bits c.in-Some.action c.args.hart.now c.requires.parcel c.in-Some.ensures)
    (c.goes_on.ensures input console)
