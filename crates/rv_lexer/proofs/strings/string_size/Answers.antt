-- The plain bytes, then each atom and those behind it.
use Rattle.std.proofs.Common.{◌≡◌, length, suc, sym, ◌∙◌, ap, arith}
use Rattle.rv_lexer.specs.Token.{string_bytes}
use Rattle.rv_lexer.proofs.InsideLemmas.{atom_within, string_more, string_none}
use Rattle.rv_lexer.proofs.PlainBytesLemmas.{plain_size}
use Rattle.rv_lexer.proofs.strings.string_size.Goals as goal

pub loop-length-init : goal.loop-length-init
loop-length-init c = (
  plain_size c.args.text.now c.split_at.result.1.now _ c.plain_length-plain.ensures.count c.plain_length-plain.ensures.within c.split_at.ensures.back,
  omega (arith, c.split_at.ensures.back_len, c.plain_length-plain.ensures.within),
)

pub split_at-requires-in-Some : goal.split_at-requires-in-Some
split_at-requires-in-Some c = (atom_within c.loop-length.rest.now c.in-Some.field-0-0 c.in-Some.length c.in-Some.ensures).1

pub loop-length-smaller : goal.loop-length-smaller
loop-length-smaller c =
    let w = atom_within c.loop-length.rest.now c.in-Some.field-0-0 c.in-Some.length c.in-Some.ensures in
    omega (arith, w.0, w.1, c.split_at-in-Some.ensures.back_len, c.split_at-in-Some-2.ensures.back_len)

pub loop-length-preserved : goal.loop-length-preserved
loop-length-preserved c =
    let w = atom_within c.loop-length.rest.now c.in-Some.field-0-0 c.in-Some.length c.in-Some.ensures in
    let more : length (string_bytes c.loop-length.rest.now) ≡ suc (length (string_bytes c.split_at-in-Some.result.1.now)) =
    ap length (string_more c.loop-length.rest.now c.in-Some.field-0-0 c.in-Some.length c.in-Some.ensures) ∙ ap (λ r. suc (length (string_bytes r))) (sym c.split_at-in-Some.ensures.back) in
    let plain = plain_size c.split_at-in-Some.result.1.now c.split_at-in-Some-2.result.1.now _ c.plain_length-plain-in-Some.ensures.count c.plain_length-plain-in-Some.ensures.within c.split_at-in-Some-2.ensures.back in
    (omega (arith, more, plain, c.loop-length.invariant.0), omega (arith, w.0, w.1, c.split_at-in-Some.ensures.back_len, c.split_at-in-Some-2.ensures.back_len, c.plain_length-plain-in-Some.ensures.within, c.loop-length.invariant.1))

pub returns : goal.returns
returns c =
    let none : length (string_bytes c.loop-length.rest.now) ≡ 0 = ap length (string_none c.loop-length.rest.now c.in_default.ensures) in
    omega (arith, none, c.loop-length.invariant.0)
