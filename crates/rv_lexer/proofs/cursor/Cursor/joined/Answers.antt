-- The first token, each that goes on with it, and one that does not.
use Rattle.std.proofs.Common.{◌∙◌, sym, ap, Some}
use Rattle.rv_lexer.specs.Token.{kind_of}
use Rattle.rv_lexer.specs.Cursor.{remaining}
use Rattle.rv_lexer.proofs.NamesJoinedLemmas.{begun, went_on, ended, nameless}
use Rattle.rv_lexer.proofs.cursor.Cursor.joined.Goals as goal
use Rattle.rv_lexer.proofs.cursor.Cursor.joined.Goals.{then-loop-self-test+else-joins, else-loop-self-test}

pub returns-in_default : goal.returns-in_default
returns-in_default c = sym (nameless c.args.self.now c.in_default.not-Name)

pub loop-self-init : goal.loop-self-init
loop-self-init c = begun c.args.self.now c.advance.new.self c.in-Name.field-0.now (ap kind_of c.in-Name.is) c.advance.ensures

pub loop-self-preserved : goal.loop-self-preserved
loop-self-preserved c =
    went_on _ _ _ _ c.loop-self.stop c.loop-self.self c.advance-in-loop-self.new.self c.loop-self.invariant c.loop-self-test.true (sym c.joins.ensures ∙ c.if-joins.true) c.advance-in-loop-self.ensures

pub returns : goal.returns
returns c =
    ap (λ text. Some (text, remaining c.loop-self.self)) c.between.ensures
    ∙ sym (ended _ _ _ _ c.loop-self.stop c.loop-self.self c.loop-self.invariant (λ offset goes. elim c.loop-self-test.branch [
      | then-loop-self-test+else-joins w ↦ absurd (cc (w.joins.ensures ∙ goes, w.if-joins.false))
      | else-loop-self-test w ↦ w.loop-self-test.false offset
    ]))
