use Rattle.std.proofs.Common.{◌∙◌, sym, arith, rules}
use Rattle.rv_parse.proofs.LinesLemmas.{line_ends, line_goes_on, line_within}
use Rattle.rv_parse.proofs.source.past_line.Goals as goal

pub loop-start-preserved : goal.loop-start-preserved
loop-start-preserved c = record {
  same = line_ends c.args.source.now c.loop-start.start _ c.in-Some.end (omega arith) c.loop-start-test.true c.in-Some.ensures.0.high c.in-Some.ensures.1 ∙ c.loop-start.invariant.same;
  within = search rules;
}

pub returns-in-None-clause-place : goal.returns-in-None-clause-place
returns-in-None-clause-place c = sym (sym c.loop-start.invariant.same ∙ line_goes_on c.args.source.now c.loop-start.start _ (omega arith) c.loop-start-test.true c.in-None.ensures)

pub returns-clause-place : goal.returns-clause-place
returns-clause-place c = sym (sym c.loop-start.invariant.same ∙ line_within c.args.source.now c.loop-start.start c.loop-start-test.false)
