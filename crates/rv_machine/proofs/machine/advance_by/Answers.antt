use Rattle.std.proofs.Common.{refl, ap, subst}
use Rattle.rv_isa_laws.specs.Memory.{Mem}
use Rattle.rv_isa_laws.specs.Hart as laws
use Rattle.rv_isa_laws.specs.Effect.{Next}
use Rattle.rv_isa_laws.specs.Run.{Fetched, fetch, done}
use Rattle.rv_machine.specs.declared.asking.Asked.{Asked}
use Rattle.rv_machine.specs.Asked.{Asks}
use Rattle.rv_machine.specs.Flow.{Leaves}
use Rattle.rv_machine.specs.Hart.{hart_of}
use Rattle.rv_machine.proofs.AskingLemmas.{asked_step, no_right, no_instruction}
use Rattle.rv_machine.proofs.machine.advance_by.Goals as goal

pub returns-in-Got-clause-remaining : goal.returns-in-Got-clause-remaining
returns-in-Got-clause-remaining g c = λ r input console.
    let m : Mem = g.M.Memory.mem c.args.memory.now in
    let h : laws.Hart = hart_of c.args.hart.now input console in
    let f : Fetched = fetch r m c.args.hart.now.pc in
    subst (λ (n : Next). Leaves c.act.result n h m (hart_of c.act.new.hart input console) (g.M.Memory.mem c.act.new.memory))
    (asked_step f c.args.hart.now c.in-Got.action c.in-Got.bytes input console m (subst (λ (a : Asked). Asks f c.args.hart.now a) c.in-Got.is (c.requires.asks r)))
    (c.act.ensures.remaining input console)

pub returns-in-NoRight-clause-remaining : goal.returns-in-NoRight-clause-remaining
returns-in-NoRight-clause-remaining g c = λ r input console.
    let m : Mem = g.M.Memory.mem c.args.memory.now in
    let h : laws.Hart = hart_of c.args.hart.now input console in
    let f : Fetched = fetch r m c.args.hart.now.pc in
    (ap (λ (f : Fetched). done f h m) (no_right f c.args.hart.now (subst (λ (a : Asked). Asks f c.args.hart.now a) c.in-NoRight.is (c.requires.asks r))), (refl, refl))

pub returns-in-NoInstruction-clause-remaining : goal.returns-in-NoInstruction-clause-remaining
returns-in-NoInstruction-clause-remaining g c = λ r input console.
    let m : Mem = g.M.Memory.mem c.args.memory.now in
    let h : laws.Hart = hart_of c.args.hart.now input console in
    let f : Fetched = fetch r m c.args.hart.now.pc in
    (ap (λ (f : Fetched). done f h m) (no_instruction f c.args.hart.now (subst (λ (a : Asked). Asks f c.args.hart.now a) c.in-NoInstruction.is (c.requires.asks r))), (refl, refl))
