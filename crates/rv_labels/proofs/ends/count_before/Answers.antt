use Rattle.std.proofs.Common.{nat_lt, rules, of_calls}
use Rattle.std.proofs.lemmas.List.Sorted.{IsPartitionPoint-from_clause, IsPartitionedBy-ltb}
use Rattle.rv_object_laws.specs.declared.row.Row.{Row}
use Rattle.rv_labels.specs.Indices.{ordinal_of}
use Rattle.rv_labels.proofs.ends.count_before.Goals as goal

pub returns-clause-point : goal.returns-clause-point
returns-clause-point c = λ rise.
    IsPartitionPoint-from_clause (λ (row : Row). nat_lt row.ordinal c.args.ordinal) c.args.rows.now c.partition_point.result c.partition_point.ensures.partitioned (IsPartitionedBy-ltb ordinal_of c.args.rows.now c.args.ordinal rise) (λ a r f k. search (rules, of_calls))
