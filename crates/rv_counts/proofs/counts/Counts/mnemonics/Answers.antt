use Rattle.std.proofs.Common.{ℕ, List, subst, sym}
use Rattle.std.proofs.lemmas.Result.{IfOk-weaker}
use Rattle.rv_counts.specs.declared.rows.CountedInstruction.{CountedInstruction}
use Rattle.rv_counts.specs.Rows.{AreCounted}
use Rattle.rv_counts.specs.Sums.{counts_mnemonic, of_mnemonic, IsListOf}
use Rattle.rv_counts.proofs.SumsLemmas.{executed_are}
use Rattle.rv_counts.proofs.counts.Counts.mnemonics.Goals as goal

pub returns : goal.returns
returns c =
    let rows = c.all.result.now in
    IfOk-weaker c.mnemonics_of.result _ _ (λ list h. λ seen short has. subst (λ (number : List ℕ → ℕ). IsListOf counts_mnemonic (λ t. t.count) number list.items) (λ i name. executed_are rows seen short (subst (λ (l : List CountedInstruction). AreCounted l seen) (sym c.all.ensures) (has.counts short)) (of_mnemonic name) i) h) c.mnemonics_of.ensures
