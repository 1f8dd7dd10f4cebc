-- The statements of a source, as they are kept.

use Rattle.std.specs.Prelude.{List, map}
use Rattle.rv_statement.specs.declared.statements.Statements.{Statements}
use Rattle.rv_statement_laws.specs.Statement as specs
use Rattle.rv_statement.specs.Records.{recorded}

-- the statements of a list: what its records say of the source
unfoldable pub statements_of : Statements → List specs.Statement
statements_of s = map (recorded s.source.now s.whole.items) s.records.items
