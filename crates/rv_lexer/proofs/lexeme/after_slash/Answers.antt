-- A comment ends inside the bytes.
use Rattle.std.proofs.Common.{◌+◌, ◌-◌, ◌≤◌, length, take, drop, ap, arith, length-drop}
use Rattle.std.proofs.lemmas.List.{take_rest}
use Rattle.rv_lexer.proofs.ScansLemmas.{close_within}
use Rattle.rv_lexer.proofs.lexeme.after_slash.Goals as goal

pub overflow_add-result : goal.overflow_add-result
overflow_add-result c =
    let rest = c.args.rest.now in
    let inside : c.in-Some.length + 2 ≤ length (take (length rest - 1) (drop 1 rest)) = close_within (take (length rest - 1) (drop 1 rest)) c.in-Some.length c.in-Some.ensures in
    omega (arith, inside, ap length (take_rest rest 1), length-drop 1 rest, c.in-42.len_at_least, c.requires)
