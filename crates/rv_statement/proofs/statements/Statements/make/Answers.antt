use Rattle.std.proofs.Common.{sym, ◌∙◌, ap}
use Rattle.rv_statement.specs.Statements.{statements_of}
use Rattle.rv_statement.proofs.RecordsLemmas.{record_at, recorded_at, packed_says}
use Rattle.rv_statement.proofs.statements.Statements.make.Goals as goal

pub returns : goal.returns
unfolding statements_of
returns c =
    let here = record_at _ _ c.args.self.now.records.items c.args.index c.index-record.result.now c.requires.within c.index-record.ensures in
    recorded_at _ _ c.args.self.now.records.items c.args.index c.index-record.result.now _ here
    (packed_says _ c.args.self.now.whole.items _ _ (c.requires.little c.index-record.result.now here) ∙ ap (λ k. record { line = c.index-record.result.now.line; kind = k }) (sym c.made.ensures))
