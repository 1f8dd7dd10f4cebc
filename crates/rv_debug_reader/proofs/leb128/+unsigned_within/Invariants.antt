use Rattle.rv_debug_reader.proofs.leb128.+unsigned_within.Given as goal

abbrev pub decreases-unsigned_within : goal.decreases-unsigned_within
decreases-unsigned_within l = l.most
