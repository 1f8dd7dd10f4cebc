use Rattle.std.proofs.Common.{refl}
use Rattle.rv_debug_laws.specs.Leb128.{unsigned_at, signed_at}
use Rattle.rv_debug_laws.specs.LineProgram.{start, special, extended_instruction, instruction, run, line_table}
use Rattle.rv_debug_laws.specs.LineUnit.{table_at}
use Rattle.rv_debug_laws.proofs.line_laws.sections_are_read.Goals as goal

pub returns-clause-riscv : goal.returns-clause-riscv
unfolding unsigned_at signed_at start special extended_instruction instruction run line_table table_at
returns-clause-riscv c = refl

pub returns-clause-other : goal.returns-clause-other
unfolding unsigned_at signed_at start special extended_instruction instruction run line_table table_at
returns-clause-other c = refl
