use Rattle.std.proofs.Common.{ℕ, subst}
use Rattle.rv_isa_laws.specs.Memory.{Execute}
use Rattle.rv_memory.specs.Held.{pieces}
use Rattle.rv_memory.specs.Quick.{IsQuick}
use Rattle.rv_memory.proofs.stretch.nears_of.Goals as goal

pub returns : goal.returns
returns c = record {
  code_executes = subst (λ (i : ℕ). IsQuick (pieces c.args.flat.now) i c.near_of-code.result Execute) c.near_of-code.ensures.index c.near_of-code.ensures.quick;
  code_ends = c.bytes_before_end.ensures;
  low_reads = c.near_of.ensures.quick;
  low_writes = c.near_of-2.ensures.quick;
  high_reads = c.near_of-3.ensures.quick;
  high_writes = c.near_of-4.ensures.quick;
  below_reads = c.near_of-5.ensures.quick;
}
