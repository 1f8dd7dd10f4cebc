use Rattle.std.proofs.Common.{◌≡◌, List, ap, ◌∙◌, arith}
use Rattle.rv_counts.specs.declared.branches.Branches.{Branches}
use Rattle.rv_counts.specs.declared.rows.CountedInstruction.{CountedInstruction}
use Rattle.rv_counts.specs.Counted.{start_registers}
use Rattle.rv_counts.specs.Rows.{at_branch, branches_in, capped, sum_of}
use Rattle.rv_counts.proofs.CountedLemmas.{executions-le, taken-le}
use Rattle.rv_counts.proofs.counts.Counts.branches.Goals as goal

pub returns : goal.returns
returns c =
    let rows = c.args.self.now.rows.rows.items in
    let of_rows = c.branches_of.ensures ∙ ap (λ (rows : List CountedInstruction). branches_in rows) c.all.ensures in
    λ seen short has.
    let counted = has.counts short in
    let executed : c.branches_of.result.executed ≡ capped (sum_of at_branch (λ row. row.count) rows) = ap (λ (b : Branches). b.executed) of_rows in
    let taken : c.branches_of.result.taken ≡ capped (sum_of at_branch (λ row. row.taken) rows) = ap (λ (b : Branches). b.taken) of_rows in
    (omega (arith, executed, counted.executed at_branch, executions-le at_branch seen), omega (arith, taken, counted.taken at_branch, taken-le at_branch start_registers seen))
