use Rattle.std.proofs.Common.{refl, subst}
use Rattle.rv_isa_laws.specs.Run.{Fetched}
use Rattle.rv_machine.specs.Asked.{Asks}
use Rattle.rv_machine.specs.declared.asking.Asked.TheVariants as code
use Rattle.rv_machine.proofs.asking.asked_at.Goals as goal

pub returns-in-Got-clause-asks : goal.returns-in-Got-clause-asks
returns-in-Got-clause-asks c = λ r.
    subst (λ (f : Fetched). Asks f c.args.hart.now (code.Got c.asked.result c.in-Got.bytes)) (c.in-Got.ensures r) (refl, c.asked.ensures)

pub returns-in-NoRight-clause-asks : goal.returns-in-NoRight-clause-asks
returns-in-NoRight-clause-asks c = λ r. subst (λ (f : Fetched). Asks f c.args.hart.now code.NoRight) (c.in-NoRight.ensures r) tt

pub returns-in-NoInstruction-clause-asks : goal.returns-in-NoInstruction-clause-asks
returns-in-NoInstruction-clause-asks c = λ r. subst (λ (f : Fetched). Asks f c.args.hart.now code.NoInstruction) (c.in-NoInstruction.ensures r) tt
