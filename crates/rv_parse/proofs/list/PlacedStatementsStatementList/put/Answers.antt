use Rattle.std.proofs.Common.{map, ap, ◌∙◌}
use Rattle.std.proofs.lemmas.List.{map-append}
use Rattle.rv_statement.specs.View.{statement_of}
use Rattle.rv_parse.proofs.OffsetsLemmas.{offsets_push}
use Rattle.rv_parse.proofs.list.PlacedStatementsStatementList.put.Goals as goal

pub returns-clause-begin : goal.returns-clause-begin
returns-clause-begin c = λ ts have here.
    offsets_push ts (map statement_of c.args.self.now.statements.items) (map statement_of c.push-2.new.self.items) (statement_of c.args.statement) c.args.self.now.offsets.items c.push.new.self.items c.args.from have
    (ap (map statement_of) c.in_ok-push-2.ensures.items ∙ map-append statement_of c.args.self.now.statements.items _) c.in_ok-push.ensures.items here
