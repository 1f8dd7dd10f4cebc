use Rattle.std.proofs.Common.{take}
use Rattle.rv_counts.specs.Sums.{executed_in, counts_mnemonic, of_mnemonic}
use Rattle.rv_counts.proofs.SumsLemmas.{IsListSoFar}
use Rattle.rv_counts.proofs.mnemonics.mnemonics_of.Given as goal

abbrev pub invariant-loop-row : goal.invariant-loop-row
invariant-loop-row l =
    IsListSoFar counts_mnemonic (λ t. t.count) (λ key. executed_in (take l.row-index l.rows) (of_mnemonic key)) (λ key. executed_in l.rows (of_mnemonic key)) l.executed.items
