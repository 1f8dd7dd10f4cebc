use Rattle.std.proofs.Common.{sym, ap, ◌∙◌}
use Rattle.rv_isa_laws.specs.Hart as laws
use Rattle.rv_isa_laws.specs.Effect.{Goes}
use Rattle.rv_machine.specs.declared.action.Action.{Action}
use Rattle.rv_machine.specs.Action.{effect_of}
use Rattle.rv_machine.specs.Hart.{hart_of}
use Rattle.rv_machine.proofs.AskingLemmas.{seen_goes}
use Rattle.rv_machine.proofs.seeing.goes_on.Goals as goal

pub returns-in-Set : goal.returns-in-Set
returns-in-Set g c = λ input console.
    let h : laws.Hart = hart_of c.args.hart.now input console in
    seen_goes _ c.args.accesses.now c.args.hart.now c.set.new.hart (g.M.Memory.mem c.args.memory.now) input console c.requires.none
    (ap (λ (a : Action). effect_of a g.row.BYTES h) c.in-Set.is ∙ ap (λ (x : laws.Hart). Goes x) (sym (c.set.ensures input console)))

pub returns-in-Jump : goal.returns-in-Jump
returns-in-Jump g c = λ input console.
    let h : laws.Hart = hart_of c.args.hart.now input console in
    seen_goes _ c.args.accesses.now c.args.hart.now c.jump.new.hart (g.M.Memory.mem c.args.memory.now) input console c.requires.none
    (ap (λ (a : Action). effect_of a g.row.BYTES h) c.in-Jump.is ∙ c.jump.ensures input console)

pub returns-in-Go : goal.returns-in-Go
returns-in-Go g c = λ input console.
    let h : laws.Hart = hart_of c.args.hart.now input console in
    seen_goes _ c.args.accesses.now c.args.hart.now _ (g.M.Memory.mem c.args.memory.now) input console c.requires.none
    (ap (λ (a : Action). effect_of a g.row.BYTES h) c.in-Go.is)
