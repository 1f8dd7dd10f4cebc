use Rattle.std.proofs.Common.{◌+◌, arith, sym, subst}
use Rattle.rv_list_laws.proofs.NumbersLemmas.{step_up}
use Rattle.rv_size_laws.specs.Branches.{MayWiden}
use Rattle.rv_size_laws.proofs.StepsLemmas.{Goes, goes_begins, goes_changed, goes_kept}
use Rattle.rv_sizes.specs.Passes.{IsInput, Stays}
use Rattle.rv_sizes.proofs.passes.widen_forwards.Goals.{then-visit_forwards, else-visit_forwards}
use Rattle.rv_sizes.proofs.passes.widen_forwards.Goals as goal

pub loop-i-init : goal.loop-i-init
loop-i-init c = record {
  input = subst (IsInput c.args.items.now) (sym c.clear.ensures.length) c.requires.input;
  table = c.requires.table;
  starts = λ s lt. c.clear.ensures.cleared s;
  goes = goes_begins c.args.sizes.now 0 0 (omega arith);
  few = omega arith;
}

pub loop-i-preserved : goal.loop-i-preserved
loop-i-preserved c = record {
  input = subst (IsInput c.args.items.now) (sym c.visit_forwards.auto.ends) c.loop-i.invariant.input;
  table = c.visit_forwards.ensures.table;
  starts = c.visit_forwards.ensures.starts;
  goes = elim c.if-visit_forwards.branch [
    | then-visit_forwards w ↦
        subst (λ n. Goes (MayWiden c.args.items.now) (Stays c.args.items.now) c.args.sizes.now c.visit_forwards.new.sizes n 0 (c.loop-i.i + 1)) (sym w.widened-is)
        (goes_changed 0 (c.loop-i.i + 1) c.loop-i.invariant.goes c.visit_forwards.ensures.visit w.if-visit_forwards.true)
    | else-visit_forwards w ↦
        subst (λ n. Goes (MayWiden c.args.items.now) (Stays c.args.items.now) c.args.sizes.now c.visit_forwards.new.sizes n 0 (c.loop-i.i + 1)) (sym w.widened-is)
        (goes_kept 0 (c.loop-i.i + 1) c.loop-i.invariant.goes c.visit_forwards.ensures.visit w.if-visit_forwards.false (step_up c.loop-i.i))
  ];
  few = elim c.if-visit_forwards.branch [
    | then-visit_forwards w ↦ omega (arith, w.widened-is)
    | else-visit_forwards w ↦ omega (arith, w.widened-is)
  ];
}
