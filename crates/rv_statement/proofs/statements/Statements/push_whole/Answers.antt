use Rattle.std.proofs.Common.{rules, arith, ◌≡◌, ◌∙◌, ◌+◌, ◌≤◌, List, [], ◌∷◌, ◌++◌, map, length, ap, ap₂}
use Rattle.std.proofs.lemmas.List.{length_push}
use Rattle.rv_statement.specs.declared.statement.Statement.{Statement}
use Rattle.rv_statement.specs.declared.record.Record.{Record}
use Rattle.rv_statement.specs.declared.record.Words.TheVariants.{Whole}
use Rattle.rv_statement.specs.Records.{recorded}
use Rattle.rv_statement.specs.Statements.{statements_of}
use Rattle.rv_statement.proofs.RecordsLemmas.{statements_whole, kept_with_whole, inside_with_whole}
use Rattle.rv_statement.proofs.statements.Statements.push_whole.Goals as goal

pub invariant_of-self-2 : goal.invariant_of-self-2
invariant_of-self-2 c =
    let records : c.push-2.new.self.items ≡ c.args.self.now.records.items ++ record { words = Whole c.len.result; line = c.args.statement.line } ∷ [] = search rules in
    let whole : c.push.new.self.items ≡ c.args.self.now.whole.items ++ c.args.statement ∷ [] = search rules in
    let at : c.len.result ≡ length c.args.self.now.whole.items = search rules in
    record {
      inside = rw records (inside_with_whole _ c.args.self.now.records.items c.args.statement.line c.len.result c.args.self.now.inside);
      kept = rw (whole, records) (kept_with_whole c.args.self.now.whole.items c.args.statement c.args.self.now.records.items c.args.statement.line c.len.result at c.args.self.now.kept);
      fewer =
          let fewer : length c.args.self.now.whole.items ≤ length c.args.self.now.records.items = c.args.self.now.fewer in
          let longer : length c.push-2.new.self.items ≡ length c.args.self.now.records.items + 1 = ap length records ∙ length_push c.args.self.now.records.items _ in
          let more : length c.push.new.self.items ≡ length c.args.self.now.whole.items + 1 = ap length whole ∙ length_push c.args.self.now.whole.items _ in
          omega arith;
    }

pub returns-clause-added : goal.returns-clause-added
unfolding statements_of
returns-clause-added c =
    let records : c.push-2.new.self.items ≡ c.args.self.now.records.items ++ record { words = Whole c.len.result; line = c.args.statement.line } ∷ [] = search rules in
    let whole : c.push.new.self.items ≡ c.args.self.now.whole.items ++ c.args.statement ∷ [] = search rules in
    let at : c.len.result ≡ length c.args.self.now.whole.items = search rules in
    ap₂ (λ (w : List Statement) (r : List Record). map (recorded c.args.self.now.source.now w) r) whole records
    ∙ statements_whole c.args.self.now.source.now c.args.self.now.whole.items c.args.statement c.args.self.now.records.items c.args.statement.line c.len.result at c.args.self.now.kept
