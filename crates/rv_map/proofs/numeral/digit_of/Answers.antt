use Rattle.std.proofs.Common.{inl, inr, arith, ◌∙◌}
use Rattle.std.proofs.lemmas.Bool.{lt-ltb, le-ltb}
use Rattle.rv_map.proofs.DigitsLemmas.{no_digit, digit_test}
use Rattle.rv_map.proofs.numeral.digit_of.Goals as goal
use Rattle.rv_map.proofs.numeral.digit_of.Goals.{in-48-to-57, in-97-to-102}

pub returns-in_default : goal.returns-in_default
returns-in_default c = no_digit c.args.base c.args.byte c.requires (grind arith)

pub returns-in_default-2 : goal.returns-in_default-2
returns-in_default-2 c = no_digit c.args.base c.args.byte c.requires (grind arith)

pub returns-in_default-3 : goal.returns-in_default-3
returns-in_default-3 c = no_digit c.args.base c.args.byte c.requires (grind arith)

pub returns-then-from-base : goal.returns-then-from-base
returns-then-from-base c =
    let read = digit_test c.args.base c.args.byte c.from-then-from-base.result
    (elim c.if-byte-lt58.branch [ in-48-to-57 w ↦ inl (omega arith, omega arith, omega arith) | in-97-to-102 w ↦ inr (omega arith, omega arith, omega arith) ]) in
    (read.0 ∙ lt-ltb _ _ (omega arith), read.1)

pub returns-else-from-base : goal.returns-else-from-base
returns-else-from-base c =
    let read = digit_test c.args.base c.args.byte c.from.result
    (elim c.if-byte-lt58.branch [ in-48-to-57 w ↦ inl (omega arith, omega arith, omega arith) | in-97-to-102 w ↦ inr (omega arith, omega arith, omega arith) ]) in
    read.0 ∙ le-ltb _ _ (omega arith)
