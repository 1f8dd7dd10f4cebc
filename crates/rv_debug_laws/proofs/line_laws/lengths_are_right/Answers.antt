use Rattle.rv_debug_laws.proofs.UnitLemmas.{unit_found, program_found, table_found}
use Rattle.rv_debug_laws.proofs.line_laws.lengths_are_right.Goals as goal

pub returns-clause-unit : goal.returns-clause-unit
returns-clause-unit c = unit_found

pub returns-clause-program : goal.returns-clause-program
returns-clause-program c = program_found

pub returns-clause-table : goal.returns-clause-table
returns-clause-table c = table_found
