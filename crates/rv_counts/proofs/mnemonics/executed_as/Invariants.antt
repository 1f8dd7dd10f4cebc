use Rattle.std.proofs.Common.{◌≡◌, take}
use Rattle.rv_counts.specs.Sums.{executed_in, of_mnemonic}
use Rattle.rv_counts.proofs.mnemonics.executed_as.Given as goal

abbrev pub invariant-loop-row : goal.invariant-loop-row
invariant-loop-row l = l.sum ≡ executed_in (take l.row-index l.rows) (of_mnemonic l.name)
