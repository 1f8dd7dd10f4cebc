-- What is done and what the rest changes make up the whole.
use Rattle.std.proofs.Common.{◌≡◌, ◌+◌, ◌++◌, map, drop}
use Rattle.rv_statement.specs.Statements.{statements_of}
use Rattle.rv_unit_laws.specs.Tables.{at_start, options_from, all_options}
use Rattle.rv_unit.specs.Options.{options_of}
use Rattle.rv_unit.specs.Sections.{offset_of}
use Rattle.rv_unit.specs.Tables.{tables_of, IsIndexed}
use Rattle.rv_unit.proofs.FillingLemmas.{FillsTo}
use Rattle.rv_unit.proofs.tables.Tables.stand_all.Given as goal

abbrev pub invariant-loop-index : goal.invariant-loop-index
invariant-loop-index l =
    (tables_of l.fn.self ≡ at_start (statements_of l.statements) → IsIndexed l.fn.self → FillsTo (tables_of l.self) l.index (drop l.index (statements_of l.statements)) (statements_of l.statements) (map offset_of l.places.items))
    × (tables_of l.fn.self ≡ at_start (statements_of l.statements) → IsIndexed l.fn.self → IsIndexed l.self)
    × (tables_of l.fn.self ≡ at_start (statements_of l.statements) → IsIndexed l.fn.self → map options_of l.options.items ++ options_from (tables_of l.self) (l.index + 1) (drop l.index (statements_of l.statements)) ≡ all_options (statements_of l.statements))
