use Rattle.rv_pseudo.proofs.li.+li_in.Given as goal

abbrev pub decreases-li_in : goal.decreases-li_in
decreases-li_in l = l.steps
