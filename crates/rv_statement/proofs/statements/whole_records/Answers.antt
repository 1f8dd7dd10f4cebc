use Rattle.std.proofs.Common.{◌≡◌, ◌+◌, ◌<◌, ◌≤◌, ◌∙◌, IsTrue, [], map, length, ap, sym, subst, take_all}
use Rattle.std.specs.List.{list_all}
use Rattle.std.proofs.lemmas.List.{length_push, length-map}
use Rattle.rv_statement.specs.View.{statement_of}
use Rattle.rv_statement.specs.Records.{recorded, has_its_part, has_its_whole}
use Rattle.rv_statement.proofs.RecordsLemmas.{whole_more, kept_one_more, inside_with_whole}
use Rattle.rv_statement.proofs.statements.whole_records.Goals as goal

pub loop-index-preserved : goal.loop-index-preserved
loop-index-preserved c =
    let all = c.args.whole.now in
    let pushed = c.in_ok-push.ensures.items in
    let within : c.loop-index.index < length all = c.loop-index-test.true in
    record {
      said = ap (map (recorded [] all)) pushed ∙ whole_more all c.loop-index.records.items _ c.loop-index.index within c.loop-index.invariant.said;
      inside = subst (λ rs. IsTrue (list_all (has_its_part 0) rs)) (sym pushed) (inside_with_whole 0 c.loop-index.records.items _ c.loop-index.index c.loop-index.invariant.inside);
      kept = subst (λ rs. IsTrue (list_all (has_its_whole (length all)) rs)) (sym pushed) (kept_one_more (length all) c.loop-index.records.items _ c.loop-index.index within c.loop-index.invariant.kept);
      each = ap length pushed ∙ length_push c.loop-index.records.items _ ∙ ap (λ n. n + 1) c.loop-index.invariant.each;
    }

pub returns-clause-said : goal.returns-clause-said
returns-clause-said c =
    let all = c.args.whole.now in
    c.loop-index.invariant.said ∙ take_all c.loop-index.index (map statement_of all) (subst (λ n. n ≤ c.loop-index.index) (sym (length-map all statement_of)) c.loop-index-test.false)
