-- An escape between apostrophes.
use Rattle.std.proofs.Common.{◌≡◌, ◌+◌, suc, true, false, sym, ◌∙◌, ap, arith, Some}
use Rattle.rv_expression_laws.specs.Grammar as grammar
use Rattle.rv_expression_laws.specs.Front.{has_first}
use Rattle.rv_lexer.proofs.InsideLemmas.{atom_within, escaped, not_escaped}
use Rattle.rv_lexer.proofs.strings.character_at.Goals as goal

pub split_at-requires : goal.split_at-requires
split_at-requires c = (atom_within c.args.bytes.now c.in-Some.byte c.in-Some.length c.in-Some.ensures).1

pub returns-then-begins : goal.returns-then-begins
returns-then-begins c =
    let size : c.in-Some.length + 2 ≡ suc (suc c.in-Some.length) = omega arith in
    ap (λ n. Some (grammar.Character c.in-Some.byte, n)) size
    ∙ escaped c.args.bytes.now c.in-Some.byte c.in-Some.length true (sym c.begins.ensures ∙ c.if-not-begins.false) c.in-Some.ensures
    (ap (has_first 39) (sym c.split_at.ensures.back) ∙ sym c.begins-in-Some.ensures ∙ c.if-begins.true)

pub returns-else-begins : goal.returns-else-begins
returns-else-begins c =
    escaped c.args.bytes.now c.in-Some.byte c.in-Some.length false (sym c.begins.ensures ∙ c.if-not-begins.false) c.in-Some.ensures
    (ap (has_first 39) (sym c.split_at.ensures.back) ∙ sym c.begins-in-Some.ensures ∙ c.if-begins.false)

pub returns-in-None : goal.returns-in-None
returns-in-None c = not_escaped c.args.bytes.now (sym c.begins.ensures ∙ c.if-not-begins.false) c.in-None.ensures
