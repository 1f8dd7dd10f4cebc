use Rattle.rv_link_sites.proofs.InsideLemmas.{AreSorted}
use Rattle.rv_link_sites.proofs.entries.sort_all.Given as goal

abbrev pub invariant-loop-i : goal.invariant-loop-i
invariant-loop-i l = AreSorted l.i l.fn.lists l.lists
