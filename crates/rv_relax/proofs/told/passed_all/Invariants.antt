use Rattle.std.proofs.Common.{◌≡◌, ◌++◌, ◌+◌, ◌≤◌, List, drop}
use Rattle.std.specs.List.{flat_map}
use Rattle.rv_shorten.specs.declared.section.ShortSection.{ShortSection}
use Rattle.rv_relax.proofs.ToldLemmas.{stands, text_in}
use Rattle.rv_relax.proofs.told.passed_all.Given as goal

-- what is wanted is in the objects that are left
abbrev pub invariant-loop-i : goal.invariant-loop-i
invariant-loop-i l = record {
  passed : (more : List ShortSection) → stands (flat_map text_in (drop l.i l.objects) ++ more) l.standing ≡ stands (flat_map text_in l.objects ++ more) l.fn.standing;
  low : l.standing.before + l.standing.left ≤ l.fn.standing.before + l.fn.standing.left;
}
