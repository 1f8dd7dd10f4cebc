use Rattle.rv_debug_reader.proofs.leb128.+signed_within.Given as goal

abbrev pub decreases-signed_within : goal.decreases-signed_within
decreases-signed_within l = l.most
