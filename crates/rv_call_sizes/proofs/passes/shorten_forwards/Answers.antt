use Rattle.std.proofs.Common.{◌+◌, refl, arith, sym, subst}
use Rattle.rv_size_laws.specs.Calls.{MayShorten}
use Rattle.rv_size_laws.proofs.StepsLemmas.{Goes, goes_begins, goes_changed, goes_kept}
use Rattle.rv_list_laws.proofs.NumbersLemmas.{step_up}
use Rattle.rv_call_sizes.specs.Passes.{Stays}
use Rattle.rv_call_sizes.proofs.passes.shorten_forwards.Goals.{then-visit_forwards, else-visit_forwards}
use Rattle.rv_call_sizes.proofs.passes.shorten_forwards.Goals as goal

pub loop-i-init : goal.loop-i-init
loop-i-init c = record {
  table = c.requires.table;
  before = refl;
  goes = goes_begins c.args.kept.now 0 0 (omega arith);
  few = omega arith;
}

pub loop-i-preserved : goal.loop-i-preserved
loop-i-preserved c = record {
  table = c.visit_forwards.ensures.table;
  before = c.visit_forwards.ensures.before;
  goes = elim c.if-visit_forwards.branch [
    | then-visit_forwards w ↦
        subst (λ n. Goes (MayShorten c.args.sites.now) (Stays c.args.sites.now) c.args.kept.now c.visit_forwards.new.kept n 0 (c.loop-i.i + 1)) (sym w.shortened-is)
        (goes_changed 0 (c.loop-i.i + 1) c.loop-i.invariant.goes c.visit_forwards.ensures.visit w.if-visit_forwards.true)
    | else-visit_forwards w ↦
        subst (λ n. Goes (MayShorten c.args.sites.now) (Stays c.args.sites.now) c.args.kept.now c.visit_forwards.new.kept n 0 (c.loop-i.i + 1)) (sym w.shortened-is)
        (goes_kept 0 (c.loop-i.i + 1) c.loop-i.invariant.goes c.visit_forwards.ensures.visit w.if-visit_forwards.false (step_up c.loop-i.i))
  ];
  few = elim c.if-visit_forwards.branch [
    | then-visit_forwards w ↦ omega (arith, w.shortened-is)
    | else-visit_forwards w ↦ omega (arith, w.shortened-is)
  ];
}
