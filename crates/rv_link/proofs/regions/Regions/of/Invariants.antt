use Rattle.rv_link.specs.Filled.{objects_of}
use Rattle.rv_link.specs.Regions.{AreGrown, left_files}
use Rattle.rv_link.proofs.regions.Regions.of.Given as goal

abbrev pub invariant-loop-file : goal.invariant-loop-file
invariant-loop-file l = AreGrown (objects_of l.fixed) l.fixed.placement.now (left_files (objects_of l.fixed) l.file) l.regions
