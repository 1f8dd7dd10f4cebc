use Rattle.std.proofs.Common.{length}
use Rattle.rv_debug_reader.proofs.file.old_directories.Given as goal

abbrev pub decreases-loop-path : goal.decreases-loop-path
decreases-loop-path l = length l.rest
