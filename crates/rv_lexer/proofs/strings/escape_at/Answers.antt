-- The digits' number is the escape's byte.
use Rattle.std.proofs.Common.{ℕ, ◌+◌, ◌%◌, ◌==◌, length, sym, ◌∙◌, ap, arith, Option, None, option_map, cond}
use Rattle.rv_expression_laws.specs.Front.{number_by}
use Rattle.rv_lexer.proofs.EscapesLemmas.{escape_octal, escape_hexadecimal}
use Rattle.rv_lexer.proofs.strings.escape_at.Goals as goal

pub returns-then-is_digit : goal.returns-then-is_digit
returns-then-is_digit c =
    c.octal.ensures
    ∙ ap (λ ds. option_map {U = ℕ × ℕ} (λ n. (n % 256, length ds + 1)) (number_by 8 ds)) c.split_at-then-is_digit.ensures.front
    ∙ escape_octal c.args.bytes.now c.split_at.result.1.now c.up_to_two-more.result (omega arith) (sym c.is_digit.ensures ∙ c.if-is_digit.true) c.split_at.ensures.back c.up_to_two-more.ensures.count

pub returns-then-first-eq120 : goal.returns-then-first-eq120
returns-then-first-eq120 c =
    c.hexadecimal.ensures
    ∙ ap (λ ds. cond {A = Option (ℕ × ℕ)} (length ds == 0) None (option_map {U = ℕ × ℕ} (λ n. (n % 256, length ds + 2)) (number_by 16 ds))) c.split_at-then-first-eq120.ensures.front
    ∙ escape_hexadecimal c.args.bytes.now c.split_at.result.1.now c.up_to_two-count.result (omega arith) c.if-first-eq120.true c.split_at.ensures.back c.up_to_two-count.ensures.count
