use Rattle.std.proofs.Common.{nat_le, rules, of_calls}
use Rattle.std.proofs.lemmas.List.Sorted.{IsPartitionPoint-from_clause, IsPartitionedBy-leb}
use Rattle.rv_counts.specs.declared.rows.CountedInstruction.{CountedInstruction}
use Rattle.rv_counts.specs.Sums.{pc_of}
use Rattle.rv_counts.proofs.addresses.count_up_to.Goals as goal

pub returns-clause-point : goal.returns-clause-point
returns-clause-point c = λ rise.
    IsPartitionPoint-from_clause (λ (row : CountedInstruction). nat_le row.pc c.args.address) c.args.rows.now c.partition_point.result c.partition_point.ensures.partitioned (IsPartitionedBy-leb pc_of c.args.rows.now c.args.address rise) (λ a r f k. search (rules, of_calls))
