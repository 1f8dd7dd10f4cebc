use Rattle.rv_isa_laws.specs.Hart.{start}
use Rattle.rv_counts.proofs.RegistersLemmas.{registers_told}
use Rattle.rv_counts.proofs.law.registers_are_told.Goals as goal

pub returns : goal.returns
returns c reader n entry input m = registers_told reader n (start entry input) m
