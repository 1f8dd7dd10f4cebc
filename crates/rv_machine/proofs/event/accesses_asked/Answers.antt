use Rattle.std.proofs.Common.{subst}
use Rattle.rv_machine.specs.declared.asking.Asked.{Asked}
use Rattle.rv_machine.specs.Asked.{Asks}
use Rattle.rv_machine.specs.Hart.{hart_of}
use Rattle.rv_machine.proofs.AskingLemmas.{asked_seen, nothing_seen}
use Rattle.rv_machine.proofs.event.accesses_asked.Goals as goal

pub returns-in-Got : goal.returns-in-Got
returns-in-Got g c = λ f hart input console are.
    asked_seen f hart c.in-Got.action c.in-Got.field-1 input console (g.M.Memory.mem c.args.memory.now) c.accesses_of.result
    (subst (λ (a : Asked). Asks f hart a) c.in-Got.is are)
    (c.accesses_of.ensures c.in-Got.field-1 (hart_of hart input console))

pub returns-in-NoRight : goal.returns-in-NoRight
returns-in-NoRight g c = λ f hart input console are.
    nothing_seen c.args.asked f hart input console (g.M.Memory.mem c.args.memory.now) _ c.in-NoRight.is are
