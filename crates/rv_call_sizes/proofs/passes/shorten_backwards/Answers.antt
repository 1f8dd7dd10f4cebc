use Rattle.std.proofs.Common.{◌+◌, ◌-◌, ◌<◌, ◌≤◌, length, arith, sym}
use Rattle.rv_size_laws.proofs.StepsLemmas.{goes_begins, goes_changed, goes_kept}
use Rattle.rv_list_laws.proofs.NumbersLemmas.{step_down}
use Rattle.rv_call_sizes.proofs.DroppingLemmas.{none_left}
use Rattle.rv_call_sizes.proofs.passes.shorten_backwards.Goals as goal

pub loop-i-init : goal.loop-i-init
loop-i-init c = record {
  within = omega arith;
  table = c.requires.table;
  after = sym (none_left c.args.sites.now c.args.kept.now);
  goes = goes_begins c.args.kept.now (length c.args.sites.now) (length c.args.sites.now) (omega arith);
  few = omega arith;
}

pub loop-i-preserved-then-visit_backwards : goal.loop-i-preserved-then-visit_backwards
loop-i-preserved-then-visit_backwards c = record {
  within = let before : c.loop-i.i ≤ length c.args.sites.now = c.loop-i.invariant.within in omega arith;
  table = c.visit_backwards.ensures.table;
  after = c.visit_backwards.ensures.after;
  goes = goes_changed (c.loop-i.i - 1) (length c.args.sites.now) c.loop-i.invariant.goes c.visit_backwards.ensures.visit c.if-visit_backwards.true;
  few = let before : c.loop-i.shortened + c.loop-i.i ≤ length c.args.sites.now = c.loop-i.invariant.few in let some : 0 < c.loop-i.i = c.loop-i-test.true in omega arith;
}

pub loop-i-preserved : goal.loop-i-preserved
loop-i-preserved c = record {
  within = let before : c.loop-i.i ≤ length c.args.sites.now = c.loop-i.invariant.within in omega arith;
  table = c.visit_backwards.ensures.table;
  after = c.visit_backwards.ensures.after;
  goes = goes_kept (c.loop-i.i - 1) (length c.args.sites.now) c.loop-i.invariant.goes c.visit_backwards.ensures.visit c.if-visit_backwards.false (λ j. step_down c.loop-i.i (length c.args.sites.now) j c.loop-i-test.true);
  few = let before : c.loop-i.shortened + c.loop-i.i ≤ length c.args.sites.now = c.loop-i.invariant.few in omega arith;
}
