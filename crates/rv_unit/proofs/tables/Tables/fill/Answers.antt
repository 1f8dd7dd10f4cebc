use Rattle.std.proofs.Common.{◌∙◌, ap}
use Rattle.std.proofs.lemmas.Result.{IfOk-weaker}
use Rattle.rv_statement.specs.Statements.{statements_of}
use Rattle.rv_unit_laws.specs.Tables.{bound_tables}
use Rattle.rv_unit.proofs.GivesLemmas.{on_ok}
use Rattle.rv_unit.proofs.tables.Tables.fill.Goals as goal

pub returns-clause-tables : goal.returns-clause-tables
returns-clause-tables c =
    on_ok c.stand_all.result _ _
    (λ f start i. f (c.in_ok-bind_names.ensures.tables ∙ ap (bound_tables (statements_of c.args.statements.now)) start) (c.in_ok-bind_names.ensures.indexed i)) c.stand_all.ensures.tables

pub returns-clause-indexed : goal.returns-clause-indexed
returns-clause-indexed c =
    on_ok c.stand_all.result _ _
    (λ f start i. f (c.in_ok-bind_names.ensures.tables ∙ ap (bound_tables (statements_of c.args.statements.now)) start) (c.in_ok-bind_names.ensures.indexed i)) c.stand_all.ensures.indexed

pub returns-clause-places : goal.returns-clause-places
returns-clause-places c =
    IfOk-weaker c.stand_all.result _ _
    (λ filled f start i. f (c.in_ok-bind_names.ensures.tables ∙ ap (bound_tables (statements_of c.args.statements.now)) start) (c.in_ok-bind_names.ensures.indexed i)) c.stand_all.ensures.places

pub returns-clause-options : goal.returns-clause-options
returns-clause-options c =
    IfOk-weaker c.stand_all.result _ _
    (λ filled f start i. f (c.in_ok-bind_names.ensures.tables ∙ ap (bound_tables (statements_of c.args.statements.now)) start) (c.in_ok-bind_names.ensures.indexed i)) c.stand_all.ensures.options
