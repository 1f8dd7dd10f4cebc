use Rattle.rv_link.specs.Filled.{objects_of}
use Rattle.rv_link.specs.Regions.{AreGrown, left_from}
use Rattle.rv_link.proofs.regions.Regions.put_object.Given as goal

abbrev pub invariant-loop-index : goal.invariant-loop-index
invariant-loop-index l = AreGrown (objects_of l.fixed) l.fixed.placement.now (left_from (objects_of l.fixed) l.file.0 l.index) l.self
