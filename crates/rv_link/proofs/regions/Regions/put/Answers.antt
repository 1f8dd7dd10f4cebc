use Rattle.std.proofs.Common.{false, true, rules, inr}
use Rattle.std.proofs.lemmas.Result.{err_from_is_err_and}
use Rattle.rv_link_laws.specs.Inputs.{goes_to_text, goes_to_rodata, goes_to_data}
use Rattle.rv_link.specs.Filled.{objects_of}
use Rattle.rv_link.proofs.TurnsLemmas.{starts_later, text_is, rodata_is, data_is, not_loaded, in_text, in_rodata, in_data, in_bss, failed, failed_or}
use Rattle.rv_link.proofs.regions.Regions.put.Goals as goal

pub returns-then-not-section-clause-grown : goal.returns-then-not-section-clause-grown
returns-then-not-section-clause-grown c =
    not_loaded (objects_of c.args.fixed.now) c.args.fixed.now.placement.now c.args.input.now c.requires.input c.args.self.now c.requires.grown c.if-not-section.true

pub put-requires-clause-later : goal.put-requires-clause-later
put-requires-clause-later c =
    let os = objects_of c.args.fixed.now in
    let p = c.args.fixed.now.placement.now in
    let x = c.args.input.now in
    let r = c.args.self.now in
    starts_later os p x c.requires.input goes_to_text p.text r.text.items (text_is os p x c.requires.input r c.requires.grown true true c.if-not-section.false c.if-section.true) c.requires.grown.text

pub returns-then-section-clause-grown : goal.returns-then-section-clause-grown
returns-then-section-clause-grown c =
    in_text (objects_of c.args.fixed.now) c.args.fixed.now.placement.now c.args.input.now c.requires.input c.args.self.now c.requires.grown c.if-not-section.false c.in_ok-put.ensures.taken
    c.put.new.out c.if-section.true c.in_ok-put.ensures.bytes

pub returns-then-is_nobits-clause-grown : goal.returns-then-is_nobits-clause-grown
returns-then-is_nobits-clause-grown c =
    in_bss (objects_of c.args.fixed.now) c.args.fixed.now.placement.now c.args.input.now c.requires.input c.args.self.now c.requires.grown c.if-not-section.false c.in_ok-judge.ensures.taken
    c.if-section.false (search rules)

pub put-requires-then-section-2-clause-later : goal.put-requires-then-section-2-clause-later
put-requires-then-section-2-clause-later c =
    let os = objects_of c.args.fixed.now in
    let p = c.args.fixed.now.placement.now in
    let x = c.args.input.now in
    let r = c.args.self.now in
    starts_later os p x c.requires.input goes_to_data p.data r.data.items (data_is os p x c.requires.input r c.requires.grown true false false true c.if-not-section.false c.if-section.false (search rules) c.if-section-2.true) c.requires.grown.data

pub returns-then-section-2-clause-grown : goal.returns-then-section-2-clause-grown
returns-then-section-2-clause-grown c =
    in_data (objects_of c.args.fixed.now) c.args.fixed.now.placement.now c.args.input.now c.requires.input c.args.self.now c.requires.grown c.if-not-section.false c.in_ok-put-2.ensures.taken
    c.put-then-section-2.new.out c.if-section.false (search rules) c.if-section-2.true c.in_ok-put-2.ensures.bytes

pub put-requires-2-clause-later : goal.put-requires-2-clause-later
put-requires-2-clause-later c =
    let os = objects_of c.args.fixed.now in
    let p = c.args.fixed.now.placement.now in
    let x = c.args.input.now in
    let r = c.args.self.now in
    starts_later os p x c.requires.input goes_to_rodata p.rodata r.rodata.items (rodata_is os p x c.requires.input r c.requires.grown true false false false c.if-not-section.false c.if-section.false (search rules) c.if-section-2.false) c.requires.grown.rodata

pub returns-clause-grown : goal.returns-clause-grown
returns-clause-grown c =
    in_rodata (objects_of c.args.fixed.now) c.args.fixed.now.placement.now c.args.input.now c.requires.input c.args.self.now c.requires.grown c.if-not-section.false c.in_ok-put-3.ensures.taken
    c.put-2.new.out c.if-section.false (search rules) c.if-section-2.false c.in_ok-put-3.ensures.bytes

pub returns-in_err-put-clause-refuses : goal.returns-in_err-put-clause-refuses
returns-in_err-put-clause-refuses c =
    let found = err_from_is_err_and c.from_residual.result c.from_residual.ensures.1 in
    rw (found.1, found.2) (failed_or (objects_of c.args.fixed.now) c.args.fixed.now.placement.now c.args.input.now c.requires.input c.args.self.now c.requires.grown c.if-not-section.false c.in_err-put.field-0.0 c.in_err-put.ensures.refuses)

pub returns-in_err-put-2-clause-refuses : goal.returns-in_err-put-2-clause-refuses
returns-in_err-put-2-clause-refuses c =
    let found = err_from_is_err_and c.from_residual-in_err-put-2.result c.from_residual-in_err-put-2.ensures.1 in
    rw (found.1, found.2) (failed_or (objects_of c.args.fixed.now) c.args.fixed.now.placement.now c.args.input.now c.requires.input c.args.self.now c.requires.grown c.if-not-section.false c.in_err-put-2.field-0.0 c.in_err-put-2.ensures.refuses)

pub returns-in_err-put-3-clause-refuses : goal.returns-in_err-put-3-clause-refuses
returns-in_err-put-3-clause-refuses c =
    let found = err_from_is_err_and c.from_residual-in_err-put-3.result c.from_residual-in_err-put-3.ensures.1 in
    rw (found.1, found.2) (failed_or (objects_of c.args.fixed.now) c.args.fixed.now.placement.now c.args.input.now c.requires.input c.args.self.now c.requires.grown c.if-not-section.false c.in_err-put-3.field-0.0 c.in_err-put-3.ensures.refuses)

pub returns-in_err-judge-clause-refuses : goal.returns-in_err-judge-clause-refuses
returns-in_err-judge-clause-refuses c =
    let found = err_from_is_err_and c.from_residual-in_err-judge.result c.from_residual-in_err-judge.ensures.1 in
    rw (found.1, found.2) (inr (failed (objects_of c.args.fixed.now) c.args.fixed.now.placement.now c.args.input.now c.requires.input c.args.self.now c.requires.grown c.if-not-section.false c.in_err-judge.field-0.0 c.in_err-judge.ensures.refuses))
