use Rattle.std.proofs.Common.{sym, subst}
use Rattle.std.specs.Prelude.{Option}
use Rattle.rv_isa_laws.specs.Memory.{Mem}
use Rattle.rv_isa_laws.specs.Hart as laws
use Rattle.rv_isa_laws.specs.Run.{NoRight, NoInstruction, fetch}
use Rattle.rv_machine.specs.declared.request.Request.{Request}
use Rattle.rv_machine.specs.Hart.{hart_of}
use Rattle.rv_machine.specs.Request.{IsRequest}
use Rattle.rv_machine.proofs.RequestLemmas.{none_asked, requests}
use Rattle.rv_machine.proofs.watching.Watched.request.Goals as goal

pub returns-in-Got : goal.returns-in-Got
returns-in-Got g c = λ reader input console.
    let h : laws.Hart = hart_of c.args.self.now.hart input console in
    let m : Mem = g.M.Memory.mem c.args.self.now.memory in
    subst (λ (o : Option Request). IsRequest o (fetch reader m h.pc) h) (sym c.request_of.ensures)
    (requests c.asked-action.result c.in-Got.inst c.in-Got.length (fetch reader m h.pc) h (c.in-Got.ensures reader) c.asked-action.ensures.0 (c.asked-action.ensures.1 input console))

pub returns-in-NoRight : goal.returns-in-NoRight
returns-in-NoRight g c = λ reader input console. none_asked _ NoRight _ (c.in-NoRight.ensures reader) tt

pub returns-in-NoInstruction : goal.returns-in-NoInstruction
returns-in-NoInstruction g c = λ reader input console. none_asked _ NoInstruction _ (c.in-NoInstruction.ensures reader) tt
