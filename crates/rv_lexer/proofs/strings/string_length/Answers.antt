-- Past the plain bytes, then past each atom and those behind it, up to the quote.
use Rattle.std.proofs.Common.{◌-◌, length, refl, sym, ◌∙◌, ap, arith}
use Rattle.rv_expression_laws.specs.Cut.{cut}
use Rattle.rv_expression_laws.specs.Front.{atom_at}
use Rattle.rv_lexer.proofs.InsideLemmas.{atom_within, atoms_end, closed, unclosed}
use Rattle.rv_lexer.proofs.PlainBytesLemmas.{plain_end}
use Rattle.rv_lexer.proofs.strings.string_length.Goals as goal

pub loop-length-init : goal.loop-length-init
loop-length-init c = (plain_end c.args.bytes.now _ refl ∙ ap (λ r. (cut atom_at r).1) (sym c.behind_plain-rest.ensures.behind), c.behind_plain-rest.ensures.within)

pub split_at-requires : goal.split_at-requires
split_at-requires c = (atom_within c.loop-length.rest.now c.in-Some.field-0-0 c.in-Some.length c.in-Some.ensures).1

pub loop-length-smaller : goal.loop-length-smaller
loop-length-smaller c =
    let w = atom_within c.loop-length.rest.now c.in-Some.field-0-0 c.in-Some.length c.in-Some.ensures in
    omega (arith, w.0, w.1, c.split_at.ensures.back_len, c.behind_plain-rest-in-Some.ensures.within)

pub loop-length-preserved : goal.loop-length-preserved
loop-length-preserved c =
    let w = atom_within c.loop-length.rest.now c.in-Some.field-0-0 c.in-Some.length c.in-Some.ensures in (
      c.loop-length.invariant.0
          ∙ w.2
          ∙ ap (λ r. (cut atom_at r).1) (sym c.split_at.ensures.back)
          ∙ plain_end c.split_at.result.1.now _ refl
          ∙ ap (λ r. (cut atom_at r).1) (sym c.behind_plain-rest-in-Some.ensures.behind),
      omega (arith, c.split_at.ensures.back_len, c.behind_plain-rest-in-Some.ensures.within, c.loop-length.invariant.1),
    )

pub returns-then-begins : goal.returns-then-begins
returns-then-begins c =
    closed c.args.bytes.now c.loop-length.rest.now (length c.args.bytes.now - length c.loop-length.rest.now)
    (c.loop-length.invariant.0 ∙ atoms_end c.loop-length.rest.now c.in_default.ensures)
    (sym c.begins.ensures ∙ c.if-begins.true)
    (omega (arith, c.loop-length.invariant.1))

pub returns-else-begins : goal.returns-else-begins
returns-else-begins c =
    unclosed c.args.bytes.now c.loop-length.rest.now
    (c.loop-length.invariant.0 ∙ atoms_end c.loop-length.rest.now c.in_default.ensures)
    (sym c.begins.ensures ∙ c.if-begins.false)
