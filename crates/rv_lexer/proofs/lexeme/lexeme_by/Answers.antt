-- Each lexeme lies within the bytes.
use Rattle.std.proofs.Common.{length, ap, arith}
use Rattle.rv_expression_laws.specs.Bytes.{is_word, in_line}
use Rattle.rv_expression_laws.proofs.RunsLemmas.{run_within}
use Rattle.rv_lexer.proofs.InsideLemmas.{string_within}
use Rattle.rv_lexer.proofs.lexeme.lexeme_by.Goals as goal

pub overflow_add-length : goal.overflow_add-length
overflow_add-length c = omega (arith, ap length c.requires.whole, run_within is_word c.args.rest.now, c.word_length-length.ensures)

pub split_at-requires : goal.split_at-requires
split_at-requires c = omega (arith, ap length c.requires.whole, run_within is_word c.args.rest.now, c.word_length-length.ensures)

pub overflow_add-length-in-Digit : goal.overflow_add-length-in-Digit
overflow_add-length-in-Digit c = omega (arith, ap length c.requires.whole, run_within is_word c.args.rest.now, c.word_length-length-in-Digit.ensures)

pub split_at-requires-in-Digit : goal.split_at-requires-in-Digit
split_at-requires-in-Digit c = omega (arith, ap length c.requires.whole, run_within is_word c.args.rest.now, c.word_length-length-in-Digit.ensures)

pub overflow_add-result : goal.overflow_add-result
overflow_add-result c = omega (arith, ap length c.requires.whole, run_within in_line c.args.rest.now, c.line_length.ensures)

pub split_at-requires-in-Some : goal.split_at-requires-in-Some
split_at-requires-in-Some c = omega (arith, string_within c.args.rest.now _ c.in-Some.length c.in-Some.ensures)
