-- The letter at the end, and the digits before it.
use Rattle.std.proofs.Common.{◌&&◌, ◌-◌, length, take, arith, sym, ◌∙◌, ap, Bool}
use Rattle.std.specs.List.{list_all}
use Rattle.rv_expression_laws.specs.Bytes.{is_digit}
use Rattle.rv_lexer.proofs.DirectionsLemmas.{refers_by, wordless}
use Rattle.rv_lexer.proofs.reference.refers.Goals as goal

pub returns-in-empty : goal.returns-in-empty
returns-in-empty c = wordless c.args.word.now c.in-empty.len_below

pub returns-then-is_direction : goal.returns-then-is_direction
returns-then-is_direction c =
    let w = c.args.word.now in
    c.are_decimals.ensures ∙ ap (λ (t : Bool). t && list_all (is_digit 10) (take (length w - 1) w)) (sym c.if-is_direction.true ∙ c.is_direction.ensures)
    ∙ refers_by w (omega (arith, c.in-len1-up.len_at_least))

pub returns-else-is_direction : goal.returns-else-is_direction
returns-else-is_direction c =
    let w = c.args.word.now in
    c.if-is_direction.false ∙ ap (λ (t : Bool). t && list_all (is_digit 10) (take (length w - 1) w)) (sym c.if-is_direction.false ∙ c.is_direction.ensures)
    ∙ refers_by w (omega (arith, c.in-len1-up.len_at_least))
