use Rattle.std.proofs.Common.{◌≡◌, ◌+◌, ◌-◌, ◌∷◌, ◌++◌, List, true, false, sym, ap, subst, ◌∙◌, ℤ, w32, w64, to_z, of_z, FitsSigned, ◌<◌, arith, rules}
use Rattle.rv_isa_laws.specs.Halves.{lo}
use Rattle.std.proofs.lemmas.Int.{to_z-of_z}
use Rattle.rv_isa.specs.declared.instruction.Inst.{Inst}
use Rattle.rv_pseudo_laws.specs.Li.{is_signed, slli, addi, unless_zero}
use Rattle.rv_pseudo_laws.specs.Li as is
use Rattle.rv_pseudo_laws.proofs.SequencesLemmas.{in_word, in_long, is_step}
use Rattle.rv_pseudo.proofs.li.+li_in.Goals as goal

pub returns-then-is_word-clause-items : goal.returns-then-is_word-clause-items
returns-then-is_word-clause-items t c =
    let value = to_z-of_z w64 c.args.value c.ranges.value in
    let short : is_signed 32 c.args.value ≡ true = ap (is_signed 32) (sym value) ∙ sym c.is_word.ensures ∙ c.if-is_word.true in
    c.li_short.ensures.items ∙ ap (is.li_short c.args.rd) value ∙ sym (in_word c.args.steps c.args.rd c.args.value short)

pub li_in-before-requires : goal.li_in-before-requires
li_in-before-requires t c =
    let value = to_z-of_z w64 c.args.value c.ranges.value in
    let long : is_signed 32 c.args.value ≡ false = ap (is_signed 32) (sym value) ∙ sym c.is_word.ensures ∙ c.if-is_word.false in
    let step = is_step c.args.steps c.args.value long c.requires.within in
    let some : 0 < c.args.steps = step.some in
    let fits : FitsSigned w64 c.parts-above.result.0 = search rules in
    let above : to_z w64 (of_z w64 c.parts-above.result.0) ≡ is.above c.args.value =
    to_z-of_z w64 c.parts-above.result.0 fits ∙ c.parts-above.ensures.above ∙ ap is.above value in
    let least = c.requires.steps in
    let measure = c.decreases in
    (omega arith, (subst (λ (z : ℤ). is.IsInReach (c.args.steps - 1) z) (sym above) step.within, omega arith))

pub returns-clause-items : goal.returns-clause-items
returns-clause-items t c =
    let value = to_z-of_z w64 c.args.value c.ranges.value in
    let long : is_signed 32 c.args.value ≡ false = ap (is_signed 32) (sym value) ∙ sym c.is_word.ensures ∙ c.if-is_word.false in
    let step = is_step c.args.steps c.args.value long c.requires.within in
    let fits : FitsSigned w64 c.parts-above.result.0 = search rules in
    let few : FitsSigned w32 c.parts-above.result.2 = search rules in
    let above : to_z w64 (of_z w64 c.parts-above.result.0) ≡ is.above c.args.value =
    to_z-of_z w64 c.parts-above.result.0 fits ∙ c.parts-above.ensures.above ∙ ap is.above value in
    let zeros : c.parts-above.result.1 ≡ is.zeros c.args.value = c.parts-above.ensures.zeros ∙ ap is.zeros value in
    let low : to_z w32 (of_z w32 c.parts-above.result.2) ≡ lo c.args.value =
    to_z-of_z w32 c.parts-above.result.2 few ∙ c.parts-above.ensures.low ∙ ap lo value in
    c.then_low.ensures.items
    ∙ ap
    (λ (xs : List Inst). xs ++ slli c.args.rd c.args.rd (12 + c.parts-above.result.1) ∷ unless_zero (to_z w32 (of_z w32 c.parts-above.result.2)) (addi c.args.rd c.args.rd (to_z w32 (of_z w32 c.parts-above.result.2))))
    c.li_in-before.ensures.items
    ∙ in_long c.args.steps c.args.rd c.args.value _ _ _ long step.some above zeros low
