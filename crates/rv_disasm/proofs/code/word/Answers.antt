use Rattle.std.proofs.Common.{sym, subst, ◌∙◌, arith}
use Rattle.rv_isa_laws.specs.Word.{Spells}
use Rattle.rv_disasm.proofs.CodesLemmas.{no_word, some_word}
use Rattle.rv_disasm.proofs.code.word.Goals as goal

pub returns-in-Some : goal.returns-in-Some
returns-in-Some c =
    some_word c.args.bytes.now c.in-Some.inst (omega arith) (λ k. omega (arith, c.type_inv.bytes k))
    (subst (λ w. Spells w c.in-Some.inst) c.first_word.ensures.number ((c.decode.ensures c.in-Some.inst).0 c.in-Some.is))
    (sym c.has_source.ensures ∙ c.if-has_source.true)

pub returns-in-Some-2 : goal.returns-in-Some-2
returns-in-Some-2 c =
    no_word c.args.bytes.now c.requires
    (λ i room s sourced.
    let found = (c.decode.ensures i).1 (subst (λ w. Spells w i) (sym c.first_word.ensures.number) s) in
    let same = sym c.in-Some.is ∙ found in
    let unsourced = sym c.if-has_source.false ∙ c.has_source.ensures in
    absurd (cc))

pub returns-in-None : goal.returns-in-None
returns-in-None c =
    no_word c.args.bytes.now c.requires
    (λ i room s sourced.
    let found = (c.decode.ensures i).1 (subst (λ w. Spells w i) (sym c.first_word.ensures.number) s) in
    let same = sym c.in-None.is ∙ found in
    absurd (cc))
