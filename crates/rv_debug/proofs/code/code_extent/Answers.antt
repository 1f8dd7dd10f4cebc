use Rattle.std.proofs.Common.{arith}
use Rattle.rv_debug.proofs.CodeLemmas.{row_within}
use Rattle.rv_debug.proofs.code.code_extent.Goals as goal

pub extent_of_row-extent-requires : goal.extent_of_row-extent-requires
extent_of_row-extent-requires c = row_within c.args.text.end c.args.code.now 0 (omega arith) c.requires.within

pub wider-extent-requires : goal.wider-extent-requires
wider-extent-requires c = row_within c.args.text.end c.args.code.now c.loop-index.index (omega arith) c.requires.within
