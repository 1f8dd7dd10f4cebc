use Rattle.std.proofs.Common.{length}
use Rattle.rv_debug_reader.proofs.unit.units_of.Given as goal

abbrev pub decreases-loop-unit : goal.decreases-loop-unit
decreases-loop-unit l = length l.rest
