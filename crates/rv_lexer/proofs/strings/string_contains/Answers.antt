-- The plain bytes, then each atom and those behind it.
use Rattle.std.proofs.Common.{◌==◌, ◌||◌, drop, sym, eq-eqb, ne_eqb, ◌∙◌, ap, arith}
use Rattle.std.proofs.lemmas.List.Folds.{list_any-append}
use Rattle.std.specs.List.{list_any}
use Rattle.rv_lexer.specs.Token.{string_bytes}
use Rattle.rv_lexer.proofs.InsideLemmas.{atom_within, string_more, string_none}
use Rattle.rv_lexer.proofs.PlainBytesLemmas.{in_two, atom_and_plain, any_behind}
use Rattle.rv_lexer.proofs.strings.string_contains.Goals as goal

pub returns-then-byte-wanted : goal.returns-then-byte-wanted
returns-then-byte-wanted c =
    sym (ap (list_any (λ byte. byte == c.args.wanted)) (string_more c.loop-byte.rest.now c.in-Some.byte c.in-Some.length c.in-Some.ensures) ∙ ap (λ b. b || list_any (λ byte. byte == c.args.wanted) (string_bytes (drop c.in-Some.length c.loop-byte.rest.now))) (eq-eqb c.in-Some.byte c.args.wanted c.if-byte-wanted.true)) ∙ c.loop-byte.invariant

pub returns-then-has_byte : goal.returns-then-has_byte
returns-then-has_byte c =
    let plain = c.split_at.result.0.now in
    let behind = c.split_at.result.1.now in
    sym (ap (list_any (λ byte. byte == c.args.wanted)) (in_two c.args.text.now plain behind _ c.plain_length.ensures.count c.split_at.ensures.front c.split_at.ensures.back)
    ∙ list_any-append (λ byte. byte == c.args.wanted) plain (string_bytes behind)
    ∙ ap (λ b. b || list_any (λ byte. byte == c.args.wanted) (string_bytes behind)) (sym c.has_byte.ensures ∙ c.if-has_byte.true))

pub loop-byte-init : goal.loop-byte-init
loop-byte-init c =
    let plain = c.split_at.result.0.now in
    let behind = c.split_at.result.1.now in
    sym (ap (list_any (λ byte. byte == c.args.wanted)) (in_two c.args.text.now plain behind _ c.plain_length.ensures.count c.split_at.ensures.front c.split_at.ensures.back)
    ∙ list_any-append (λ byte. byte == c.args.wanted) plain (string_bytes behind)
    ∙ ap (λ b. b || list_any (λ byte. byte == c.args.wanted) (string_bytes behind)) (sym c.has_byte.ensures ∙ c.if-has_byte.false))

pub split_at-requires-in-Some : goal.split_at-requires-in-Some
split_at-requires-in-Some c = (atom_within c.loop-byte.rest.now c.in-Some.byte c.in-Some.length c.in-Some.ensures).1

pub returns-then-has_byte-2 : goal.returns-then-has_byte-2
returns-then-has_byte-2 c =
    let plain = c.split_at-in-Some-2.result.0.now in
    let behind = c.split_at-in-Some-2.result.1.now in
    let whole = atom_and_plain c.loop-byte.rest.now _ plain behind _ _ _ c.in-Some.ensures c.split_at-in-Some.ensures.back c.plain_length-in-Some.ensures.count c.split_at-in-Some-2.ensures.front c.split_at-in-Some-2.ensures.back in
    sym (any_behind c.args.wanted c.in-Some.byte c.loop-byte.rest.now plain behind whole (ne_eqb c.in-Some.byte c.args.wanted c.if-byte-wanted.false)
    ∙ ap (λ b. b || list_any (λ byte. byte == c.args.wanted) (string_bytes behind)) (sym c.has_byte-in-Some.ensures ∙ c.if-has_byte-2.true))
    ∙ c.loop-byte.invariant

pub loop-byte-smaller : goal.loop-byte-smaller
loop-byte-smaller c =
    let w = atom_within c.loop-byte.rest.now c.in-Some.byte c.in-Some.length c.in-Some.ensures in
    omega (arith, w.0, w.1, c.split_at-in-Some.ensures.back_len, c.split_at-in-Some-2.ensures.back_len)

pub loop-byte-preserved : goal.loop-byte-preserved
loop-byte-preserved c =
    let plain = c.split_at-in-Some-2.result.0.now in
    let behind = c.split_at-in-Some-2.result.1.now in
    let whole = atom_and_plain c.loop-byte.rest.now _ plain behind _ _ _ c.in-Some.ensures c.split_at-in-Some.ensures.back c.plain_length-in-Some.ensures.count c.split_at-in-Some-2.ensures.front c.split_at-in-Some-2.ensures.back in
    sym (any_behind c.args.wanted c.in-Some.byte c.loop-byte.rest.now plain behind whole (ne_eqb c.in-Some.byte c.args.wanted c.if-byte-wanted.false)
    ∙ ap (λ b. b || list_any (λ byte. byte == c.args.wanted) (string_bytes behind)) (sym c.has_byte-in-Some.ensures ∙ c.if-has_byte-2.false))
    ∙ c.loop-byte.invariant

pub returns : goal.returns
returns c = ap (list_any (λ byte. byte == c.args.wanted)) (sym (string_none c.loop-byte.rest.now c.in_default.ensures)) ∙ c.loop-byte.invariant
