use Rattle.std.proofs.Common.{◌≡◌, ◌+◌, ◌∙◌, ap, sym, drop, ◌∷◌}
use Rattle.rv_list_laws.proofs.TakeDropLemmas.{drop_next}
use Rattle.rv_statement.specs.Statements.{statements_of}
use Rattle.rv_statement.specs.View.{statement_of}
use Rattle.rv_unit_laws.specs.Tables.{bound_tables}
use Rattle.rv_unit.specs.Tables.{tables_of}
use Rattle.rv_unit.proofs.tables.Tables.bind_names.Goals as goal

pub loop-index-preserved : goal.loop-index-preserved
loop-index-preserved c =
    let i = c.loop-index.index in
    let ss = statements_of c.args.statements.now in
    let x = statement_of c.read-statement.result.now in
    let next : drop i ss ≡ x ∷ drop (i + 1) ss = drop_next ss i x c.read-statement.ensures in (
      ap (bound_tables (drop (i + 1) ss)) c.in_ok-bind_by.ensures.tables
          ∙ sym (ap (λ l. bound_tables l (tables_of c.loop-index.self)) next) ∙ c.loop-index.invariant.0,
      (λ indexed. c.in_ok-bind_by.ensures.indexed (c.loop-index.invariant.1 indexed)),
    )
