use Rattle.std.proofs.Common.{◌≡◌, ◌++◌, ◌+◌, ◌≤◌, List, drop}
use Rattle.std.specs.List.{flat_map}
use Rattle.rv_shorten.specs.declared.section.ShortSection.{ShortSection}
use Rattle.rv_relax.proofs.ToldLemmas.{own_text, stands}
use Rattle.rv_relax.proofs.told.passed_among.Given as goal

-- what is wanted is in the sections that are left
abbrev pub invariant-loop-i : goal.invariant-loop-i
invariant-loop-i l = record {
  passed : (more : List ShortSection) → stands (flat_map own_text (drop l.i l.sections) ++ more) l.standing ≡ stands (flat_map own_text l.sections ++ more) l.fn.standing;
  low : l.standing.before + l.standing.left ≤ l.fn.standing.before + l.fn.standing.left;
}
