-- A blank or a comment, a token, and the last token.
use Rattle.std.proofs.Common.{◌≡◌, false, ◌∙◌, ap, arith, length, length-drop}
use Rattle.rv_expression_laws.specs.Lexing.{is_last}
use Rattle.rv_lexer.specs.Token.{kind_of}
use Rattle.rv_lexer.specs.Lexeme.{lexeme_kind_of}
use Rattle.rv_lexer.proofs.FeedsLemmas.{found_spelled}
use Rattle.rv_lexer.proofs.StepsLemmas.{goes_on_after, lexeme_within, gap_step, token_step, stop_step}
use Rattle.rv_lexer.proofs.lexer.Lexer.next_of_all.Goals as goal

pub skip-requires : goal.skip-requires
skip-requires c = record {
  within = (lexeme_within c.loop-lexeme.self.rest.now (lexeme_kind_of c.in-Some.lexeme.kind) c.in-Some.lexeme.length c.in-Some.ensures).1;
  spelled = found_spelled c.loop-lexeme.self.rest.now (lexeme_kind_of c.in-Some.lexeme.kind) c.in-Some.lexeme.length c.in-Some.ensures;
}

pub returns-in-Some-token-clause-first : goal.returns-in-Some-token-clause-first
returns-in-Some-token-clause-first c =
    c.loop-lexeme.invariant
    ∙ token_step c.loop-lexeme.self c.skip.new.self (lexeme_kind_of c.in-Some.lexeme.kind) c.in-Some.lexeme.length c.in-Some-token.kind c.in-Some.ensures
    c.skip.ensures.rest c.skip.ensures.at c.skip.ensures.line c.in-Some-token.ensures.0 c.in-Some-token.ensures.1

pub returns-in-Some-token-clause-stays : goal.returns-in-Some-token-clause-stays
returns-in-Some-token-clause-stays c = λ last.
    let on : is_last (lexeme_kind_of c.in-Some.lexeme.kind) ≡ false = goes_on_after c.loop-lexeme.self.rest.now (lexeme_kind_of c.in-Some.lexeme.kind) c.in-Some.lexeme.length c.in-Some.ensures in
    let same : is_last (lexeme_kind_of c.in-Some.lexeme.kind) ≡ is_last (kind_of c.in-Some-token.kind) = ap is_last c.in-Some-token.ensures.0 in
    cc (on, same, last)

pub loop-lexeme-smaller : goal.loop-lexeme-smaller
loop-lexeme-smaller c =
    let w = lexeme_within c.loop-lexeme.self.rest.now (lexeme_kind_of c.in-Some.lexeme.kind) c.in-Some.lexeme.length c.in-Some.ensures in
    omega (arith, w.0, w.1, ap length c.skip.ensures.rest, length-drop c.in-Some.lexeme.length c.loop-lexeme.self.rest.now)

pub loop-lexeme-preserved : goal.loop-lexeme-preserved
loop-lexeme-preserved c =
    c.loop-lexeme.invariant
    ∙ gap_step c.loop-lexeme.self c.skip.new.self (lexeme_kind_of c.in-Some.lexeme.kind) c.in-Some.lexeme.length c.in-Some.ensures
    c.skip.ensures.rest c.skip.ensures.at c.skip.ensures.line c.in_default-token.ensures

pub returns-clause-first : goal.returns-clause-first
returns-clause-first c = c.loop-lexeme.invariant ∙ stop_step c.loop-lexeme.self c.last_kind.result c.in_default.ensures c.last_kind.ensures
