use Rattle.std.proofs.Common.{◌≡◌, ◌++◌, map, drop}
use Rattle.rv_relax.specs.Kept.{kept_in, moves_of}
use Rattle.rv_relax.proofs.plan.paddings_of.Given as goal

-- those so far, and those of the sections that are left, are all of them
abbrev pub invariant-loop-section : goal.invariant-loop-section
invariant-loop-section l = map moves_of l.plans.items ++ map kept_in (drop l.section-index l.sections) ≡ map kept_in l.sections
