-- The frequent token is the lexeme at the front.
use Rattle.std.proofs.Common.{◌≡◌, ℕ, ◌+◌, ◌≤◌, Bool, true, false, cond, length, take, length-drop, refl, sym, ◌∙◌, ap, arith}
use Rattle.rv_expression_laws.specs.Lexing.{is_last}
use Rattle.rv_lexer.specs.Token.{kind_of}
use Rattle.rv_lexer.proofs.FeedsLemmas.{found_spelled, token_feeds}
use Rattle.rv_lexer.proofs.StepsLemmas.{goes_on_after, lexeme_within, no_gap, token_step}
use Rattle.rv_lexer.proofs.lexer.Lexer.put_by.Goals as goal

one_at_most : (t : Bool) (n : ℕ) → n ≡ cond t 1 0 → n ≤ 1
one_at_most true n e = omega (arith, e)
one_at_most false n e = omega (arith, e)

pub split_at-requires : goal.split_at-requires
split_at-requires c = (lexeme_within _ (kind_of c.in-Some.frequent.kind) c.in-Some.frequent.length c.in-Some.ensures.is).1

pub overflow_add-behind-2 : goal.overflow_add-behind-2
overflow_add-behind-2 c =
    let w = lexeme_within _ (kind_of c.in-Some.frequent.kind) c.in-Some.frequent.length c.in-Some.ensures.is in
    omega (arith, c.args.self.now.line_fits, one_at_most _ c.in-Some.frequent.feeds c.in-Some.ensures.feeds, w.0, w.1)

pub invariant_of-behind : goal.invariant_of-behind
invariant_of-behind c =
    let w = lexeme_within _ (kind_of c.in-Some.frequent.kind) c.in-Some.frequent.length c.in-Some.ensures.is in
    let less = length-drop c.in-Some.frequent.length c.args.self.now.rest.now in
    let few = one_at_most _ c.in-Some.frequent.feeds c.in-Some.ensures.feeds in
    record {
      offset_fits = omega (arith, c.args.self.now.offset_fits, ap length c.split_at.ensures.back, less, w.0, w.1);
      line_fits = omega (arith, c.args.self.now.line_fits, ap length c.split_at.ensures.back, less, few, w.0, w.1);
    }

pub returns-clause-first : goal.returns-clause-first
returns-clause-first c =
    let f = c.in-Some.frequent in
    let old = c.args.self.now in
    token_step old _ (kind_of f.kind) f.length f.kind c.in-Some.ensures.is c.split_at.ensures.back refl
    (ap (λ (n : ℕ). old.line + n) (c.in-Some.ensures.feeds ∙ sym (token_feeds f.kind (take f.length old.rest.now) (found_spelled old.rest.now (kind_of f.kind) f.length c.in-Some.ensures.is))))
    refl (no_gap f.kind)

pub returns-clause-stays : goal.returns-clause-stays
returns-clause-stays c = λ last.
    let on : is_last (kind_of c.in-Some.frequent.kind) ≡ false = goes_on_after c.args.self.now.rest.now (kind_of c.in-Some.frequent.kind) c.in-Some.frequent.length c.in-Some.ensures.is in
    cc (on, last)
