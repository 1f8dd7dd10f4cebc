use Rattle.std.proofs.Common.{◌+◌, ◌-◌, ◌%◌, ◌^◌, sym, ◌∙◌, refl, arith}
use Rattle.rv_isa_laws.specs.Memory.{Mem}
use Rattle.rv_memory.specs.Rights.{right_of}
use Rattle.rv_memory.proofs.MemoryLemmas.{may-front, may-parts, may-wraps}
use Rattle.rv_memory.proofs.pieces.have_right.Goals as goal

pub returns-then-remaining-run : goal.returns-then-remaining-run
returns-then-remaining-run g c =
    let m : Mem = g.P.Pieces.mem c.args.memory.now in
    sym (may-front m c.loop-remaining.at c.run-run.result c.loop-remaining.remaining (right_of c.args.right) c.if-remaining-run.true c.run-run.ensures.all) ∙ c.loop-remaining.invariant

pub loop-remaining-preserved : goal.loop-remaining-preserved
loop-remaining-preserved g c =
    let m : Mem = g.P.Pieces.mem c.args.memory.now in
    let next = c.loop-remaining.at + c.run-run.result in
    may-wraps m (next % 2 ^ 64) next (c.loop-remaining.remaining - c.run-run.result) (right_of c.args.right) (omega arith)
    ∙ may-parts m c.loop-remaining.at c.run-run.result (c.loop-remaining.remaining - c.run-run.result) next c.loop-remaining.remaining (right_of c.args.right) refl (omega arith) c.run-run.ensures.all
    ∙ c.loop-remaining.invariant
