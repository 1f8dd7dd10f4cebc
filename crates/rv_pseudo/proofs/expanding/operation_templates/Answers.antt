use Rattle.std.proofs.Common.{◌≡◌, true, false, sym, ap, subst, ◌∙◌, ℤ, w64, to_z, of_z, FitsSigned, rules}
use Rattle.std.proofs.lemmas.Int.{to_z-of_z}
use Rattle.rv_pseudo_laws.specs.Valid.{takes}
use Rattle.rv_statement.specs.View.{with_operand}
use Rattle.rv_pseudo.specs.Faults as faults
use Rattle.rv_pseudo.specs.Templates as is
use Rattle.rv_pseudo.proofs.InRangeLemmas.{is_taken, sound_taken, number_takes, known_placed, good_scratch, target_alone, target_written}
use Rattle.rv_pseudo.proofs.RowsLemmas.{away_operand, target_operand, row_some, row_known}
use Rattle.rv_pseudo.proofs.TableLemmas.{part_statement}
use Rattle.rv_pseudo.proofs.expanding.operation_templates.Goals as goal

pub targeted-requires-clause-scratch : goal.targeted-requires-clause-scratch
targeted-requires-clause-scratch c =
    let known = c.known_as-known.result in
    let worth = faults.worth_of c.args.manner.worth in
    let taken = sound_taken c.args.operation c.args.function worth c.requires.sound c.requires.placed in
    let target : faults.takes_target known ≡ true = sym c.takes_target.ensures ∙ c.if-takes_target.true in
    let known_target = ap faults.takes_target (sym c.known_as-known.ensures) ∙ target in
    ap faults.is_bad_scratch c.known_as-known.ensures
    ∙ good_scratch c.args.operation c.args.function worth c.requires.sound (target_alone (faults.known_as c.args.operation c.args.function) c.args.function _ taken known_target) known_target

pub targeted-requires-clause-written : goal.targeted-requires-clause-written
targeted-requires-clause-written c =
    let known = c.known_as-known.result in
    let worth = faults.worth_of c.args.manner.worth in
    let taken = sound_taken c.args.operation c.args.function worth c.requires.sound c.requires.placed in
    let target : faults.takes_target known ≡ true = sym c.takes_target.ensures ∙ c.if-takes_target.true in
    let known_target = ap faults.takes_target (sym c.known_as-known.ensures) ∙ target in
    ap faults.is_written c.known_as-known.ensures
    ∙ target_written c.args.operation c.args.function (target_alone (faults.known_as c.args.operation c.args.function) c.args.function _ taken known_target) c.requires.placed

pub returns-then-takes_target : goal.returns-then-takes_target
returns-then-takes_target c = λ e.
    let known = c.known_as-known.result in
    let function = c.args.function in
    let taken = sound_taken c.args.operation function (faults.worth_of c.args.manner.worth) c.requires.sound c.requires.placed in
    let target : faults.takes_target known ≡ true = sym c.takes_target.ensures ∙ c.if-takes_target.true in
    let alone = target_alone (faults.known_as c.args.operation function) function _ taken (ap faults.takes_target (sym c.known_as-known.ensures) ∙ target) in
    ap (is.form_templates c.args.manner) (sym (part_statement c.args.operation function e) ∙ ap (λ o. is.statement_with o function e) (sym c.known_as-known.ensures))
    ∙ ap (λ o. is.form_templates c.args.manner (with_operand known o)) (target_operand known function e alone target)
    ∙ c.targeted.ensures c.args.manner.rvc e (is.constants_of c.args.manner)

pub numbered-requires-clause-range : goal.numbered-requires-clause-range
numbered-requires-clause-range c =
    let fits : FitsSigned w64 c.number-number.result = search rules in
    let known = c.known_as-known.result in
    let worth = faults.worth_of c.args.manner.worth in
    let taken = subst (λ o. is_taken o c.args.function (faults.constant_in worth) ≡ true) (sym c.known_as-known.ensures)
    (sound_taken c.args.operation c.args.function worth c.requires.sound c.requires.placed) in
    let same : to_z w64 (of_z w64 c.number-number.result) ≡ faults.number c.args.function (faults.constant_in worth) =
    to_z-of_z w64 c.number-number.result fits ∙ c.number-number.ensures ∙ ap (faults.number c.args.function) c.constant-value.ensures in
    subst (λ (z : ℤ). takes (faults.mnemonic_of known) z ≡ true) (sym same)
    (number_takes known c.args.function (faults.constant_in worth) taken (sym c.takes_target.ensures ∙ c.if-takes_target.false))

pub returns : goal.returns
returns c = λ e.
    let fits : FitsSigned w64 c.number-number.result = search rules in
    let known = c.known_as-known.result in
    let function = c.args.function in
    let value = faults.constant_in (faults.worth_of c.args.manner.worth) in
    let taken = subst (λ o. is_taken o function value ≡ true) (sym c.known_as-known.ensures)
    (sound_taken c.args.operation function (faults.worth_of c.args.manner.worth) c.requires.sound c.requires.placed) in
    let same : to_z w64 (of_z w64 c.number-number.result) ≡ faults.number function value =
    to_z-of_z w64 c.number-number.result fits ∙ c.number-number.ensures ∙ ap (faults.number function) c.constant-value.ensures in
    let away : faults.takes_target known ≡ false = sym c.takes_target.ensures ∙ c.if-takes_target.false in
    let placed = ap (λ o. faults.is_placed o function) c.known_as-known.ensures ∙ known_placed c.args.operation function c.requires.placed in
    let told = subst (λ v. is.Puts function v c.is_store.result (faults.number function v) c.relocation-reloc.result) c.constant-value.ensures c.relocation-reloc.ensures in
    let stored = subst (λ b. is.Puts function value b (faults.number function value) c.relocation-reloc.result) c.is_store.ensures told in
    let puts = subst (λ (z : ℤ). is.Puts function value (is.is_store known) z c.relocation-reloc.result) (sym same) stored in
    ap (is.form_templates c.args.manner) (sym (part_statement c.args.operation function e) ∙ ap (λ o. is.statement_with o function e) (sym c.known_as-known.ensures))
    ∙ ap (λ o. is.form_templates c.args.manner (with_operand known o)) (away_operand known function e away)
    ∙ row_known _ _ (row_some known function value c.args.manner.rvc c.args.manner.bytes e taken away placed)
    (λ parts row. c.numbered.ensures function value c.args.manner.rvc c.args.manner.bytes e parts puts row)
