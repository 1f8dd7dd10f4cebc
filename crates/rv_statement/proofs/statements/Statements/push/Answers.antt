use Rattle.std.proofs.Common.{◌≡◌, [], ◌∷◌, ◌++◌, OnOk, subst}
use Rattle.rv_statement_laws.specs.Statement as specs
use Rattle.rv_statement.specs.Statements.{statements_of}
use Rattle.rv_statement.proofs.RecordsLemmas.{packed_statement}
use Rattle.rv_statement.proofs.statements.Statements.push.Goals as goal

pub returns-in-Some-clause-added : goal.returns-in-Some-clause-added
returns-in-Some-clause-added c =
    subst (λ (x : specs.Statement). OnOk c.push_record.result (statements_of c.push_record.new.self ≡ statements_of c.args.self.now ++ x ∷ []))
    (packed_statement c.args.self.now.source.now c.args.self.now.whole.items c.args.statement c.in-Some.words c.in-Some.ensures) c.push_record.ensures.added
