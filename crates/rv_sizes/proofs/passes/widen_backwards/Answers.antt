use Rattle.std.proofs.Common.{◌≡◌, le_refl, ◌+◌, ◌-◌, ◌<◌, ◌≤◌, length, arith, sym, subst}
use Rattle.rv_list_laws.proofs.NumbersLemmas.{step_down}
use Rattle.rv_size_laws.proofs.StepsLemmas.{goes_begins, goes_changed, goes_kept}
use Rattle.rv_sizes.specs.Passes.{IsInput}
use Rattle.rv_sizes.proofs.FirstTableLemmas.{none_left}
use Rattle.rv_sizes.proofs.passes.widen_backwards.Goals as goal

pub loop-i-init : goal.loop-i-init
loop-i-init c = record {
  within = rw c.len-i.ensures (le_refl (length c.args.items.now));
  input = subst (IsInput c.args.items.now) (sym c.clear.ensures.length) c.requires.input;
  table = rw c.len-i.ensures c.requires.table;
  rests = rw c.len-i.ensures (none_left c.args.items.now c.args.sizes.now c.clear.new.ends c.clear.ensures.cleared);
  goes = rw c.len-i.ensures (goes_begins c.args.sizes.now (length c.args.items.now) (length c.args.items.now) (omega arith));
  few = let all : c.len-i.result ≡ length c.args.items.now = c.len-i.ensures in omega arith;
}

pub loop-i-preserved-then-visit_backwards : goal.loop-i-preserved-then-visit_backwards
loop-i-preserved-then-visit_backwards c = record {
  within = let before : c.loop-i.i ≤ length c.args.items.now = c.loop-i.invariant.within in omega arith;
  input = subst (IsInput c.args.items.now) (sym c.visit_backwards.auto.ends) c.loop-i.invariant.input;
  table = c.visit_backwards.ensures.table;
  rests = c.visit_backwards.ensures.rests;
  goes = goes_changed (c.loop-i.i - 1) (length c.args.items.now) c.loop-i.invariant.goes c.visit_backwards.ensures.visit c.if-visit_backwards.true;
  few = let before : c.loop-i.widened + c.loop-i.i ≤ length c.args.items.now = c.loop-i.invariant.few in let some : 0 < c.loop-i.i = c.loop-i-test.true in omega arith;
}

pub loop-i-preserved : goal.loop-i-preserved
loop-i-preserved c = record {
  within = let before : c.loop-i.i ≤ length c.args.items.now = c.loop-i.invariant.within in omega arith;
  input = subst (IsInput c.args.items.now) (sym c.visit_backwards.auto.ends) c.loop-i.invariant.input;
  table = c.visit_backwards.ensures.table;
  rests = c.visit_backwards.ensures.rests;
  goes = goes_kept (c.loop-i.i - 1) (length c.args.items.now) c.loop-i.invariant.goes c.visit_backwards.ensures.visit c.if-visit_backwards.false (λ j. step_down c.loop-i.i (length c.args.items.now) j c.loop-i-test.true);
  few = let before : c.loop-i.widened + c.loop-i.i ≤ length c.args.items.now = c.loop-i.invariant.few in omega arith;
}
