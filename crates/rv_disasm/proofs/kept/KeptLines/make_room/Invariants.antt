use Rattle.std.proofs.Common.{◌-◌, length}
use Rattle.rv_disasm.specs.declared.kept.TheConstants.{KEPT}
use Rattle.rv_disasm.proofs.kept.KeptLines.make_room.Given as goal

abbrev pub decreases-loop-self : goal.decreases-loop-self
decreases-loop-self l = KEPT - length l.self.lines.items
