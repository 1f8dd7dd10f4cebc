use Rattle.std.proofs.Common.{length}
use Rattle.rv_debug_reader.proofs.file.old_files.Given as goal

abbrev pub decreases-loop-file : goal.decreases-loop-file
decreases-loop-file l = length l.rest
