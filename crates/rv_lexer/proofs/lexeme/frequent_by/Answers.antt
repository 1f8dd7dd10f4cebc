-- A name or a number lies within the bytes, and has no line feed.
use Rattle.std.proofs.Common.{◌∙◌, cond, sym, length, ap, arith}
use Rattle.rv_expression_laws.specs.Bytes.{is_word}
use Rattle.rv_expression_laws.proofs.RunsLemmas.{run_within}
use Rattle.rv_lexer.specs.Lexeme.{has_feeds}
use Rattle.rv_lexer.proofs.FeedsLemmas.{digits_no_feeds}
use Rattle.rv_lexer.proofs.lexeme.frequent_by.Goals as goal

pub overflow_add-length : goal.overflow_add-length
overflow_add-length c = omega (arith, ap length c.requires.whole, run_within is_word c.args.rest.now, c.word_length-length.ensures)

pub split_at-requires : goal.split_at-requires
split_at-requires c = omega (arith, ap length c.requires.whole, run_within is_word c.args.rest.now, c.word_length-length.ensures)

pub overflow_add-length-in-Digit : goal.overflow_add-length-in-Digit
overflow_add-length-in-Digit c = omega (arith, ap length c.requires.whole, run_within is_word c.args.rest.now, c.word_length-length-in-Digit.ensures)

pub split_at-requires-in-Digit : goal.split_at-requires-in-Digit
split_at-requires-in-Digit c = omega (arith, ap length c.requires.whole, run_within is_word c.args.rest.now, c.word_length-length-in-Digit.ensures)

pub returns-in-Digit-clause-feeds : goal.returns-in-Digit-clause-feeds
returns-in-Digit-clause-feeds c = sym (ap (λ b. cond b 1 0) (ap has_feeds c.digits_kind.ensures ∙ digits_no_feeds _ _))
