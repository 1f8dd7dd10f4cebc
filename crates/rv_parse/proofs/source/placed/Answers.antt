use Rattle.std.proofs.Common.{refl, sym, subst, arith}
use Rattle.rv_expression_laws.specs.Lexing.{Lexes}
use Rattle.rv_expression_laws.proofs.TokensLemmas.{given}
use Rattle.rv_parse_laws.proofs.WholeLemmas.{reads_as}
use Rattle.rv_parse.proofs.PastLineLemmas.{past_none}
use Rattle.rv_parse.proofs.RefusalsLemmas.{limit_refused, line_first, line_alone, token_before, token_alone}
use Rattle.rv_parse.proofs.source.placed.Goals.{in_default-via-in-Some+else-place-wrong, in_default-via-in_default}
use Rattle.rv_parse.proofs.source.placed.Goals as goal

pub returns-in-None-clause-reads : goal.returns-in-None-clause-reads
returns-in-None-clause-reads g c = reads_as c.args.source.now _ _ c.if-source-gt-LONGEST_SOURCE.false (past_none c.args.source.now (sym c.in-None.ensures.place)) c.in-Ok.ensures.within (c.new.ensures.whole (omega (arith, c.if-source-gt-LONGEST_SOURCE.false))) c.in-Ok.ensures.says

pub returns-in-None-clause-begin : goal.returns-in-None-clause-begin
returns-in-None-clause-begin g c =
    (_, subst (Lexes c.args.source.now) (sym (c.new.ensures.whole (omega (arith, c.if-source-gt-LONGEST_SOURCE.false)))) (given c.args.source.now), c.in-Ok.ensures.begin)

pub returns-in-Some-clause-refuses : goal.returns-in-Some-clause-refuses
returns-in-Some-clause-refuses g c =
    limit_refused c.args.source.now _ c.in-Some.place c.past_limit.ensures (line_first c.args.source.now _ c.in-Err-At.wrong c.in-Some.place _ c.if-source-gt-LONGEST_SOURCE.false (c.new.ensures.whole (omega (arith, c.if-source-gt-LONGEST_SOURCE.false))) (rw c.in-Err-At.field-0-is at c.in-Err-At.ensures.refuses)
    (sym c.in-Some.ensures.place) c.if-place-wrong.true refl)

pub returns-in_default-clause-refuses : goal.returns-in_default-clause-refuses
returns-in_default-clause-refuses g c = elim c.in_default.branch [
  | in_default-via-in-Some+else-place-wrong w ↦ token_before c.args.source.now _ c.in-Err-At.wrong w.in-Some.place c.if-source-gt-LONGEST_SOURCE.false (c.new.ensures.whole (omega (arith, c.if-source-gt-LONGEST_SOURCE.false))) (rw c.in-Err-At.field-0-is at c.in-Err-At.ensures.refuses)
      (sym w.in-Some.ensures.place) w.if-place-wrong.false
  | in_default-via-in_default w ↦ token_alone c.args.source.now _ c.in-Err-At.wrong c.if-source-gt-LONGEST_SOURCE.false (c.new.ensures.whole (omega (arith, c.if-source-gt-LONGEST_SOURCE.false))) (rw c.in-Err-At.field-0-is at c.in-Err-At.ensures.refuses)
      (sym w.in_default.ensures.place)
]

pub returns-in-Some-past-clause-refuses : goal.returns-in-Some-past-clause-refuses
returns-in-Some-past-clause-refuses g c =
    limit_refused c.args.source.now _ c.in-Some-past.place c.past_limit-in-Some-past.ensures (line_alone c.args.source.now _ _ c.in-Some-past.place _ c.if-source-gt-LONGEST_SOURCE.false (c.new.ensures.whole (omega (arith, c.if-source-gt-LONGEST_SOURCE.false))) c.in-Ok.ensures.says c.in-Ok.ensures.within
    (sym c.in-Some-past.ensures.place) refl)
