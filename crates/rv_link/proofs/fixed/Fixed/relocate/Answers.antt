use Rattle.std.proofs.Common.{rules, ◌≡◌, subst, sym, ap, ◌∙◌, arith, w64, FitsSigned, to_z, of_z}
use Rattle.std.proofs.lemmas.Int.{to_z-of_z}
use Rattle.std.proofs.lemmas.Result.{err_from_is_err_and}
use Rattle.rv_reloc_laws.specs.Ranges.{Takes, Refuses}
use Rattle.rv_link_laws.specs.Moves.{new_offset}
use Rattle.rv_link_laws.specs.Values.{patched_at}
use Rattle.rv_object_types.specs.Parts.{relocation_of, zeros_relocation}
use Rattle.rv_shorten.specs.Sections.{moves_in}
use Rattle.rv_relax.specs.Kept.{moves_of}
use Rattle.rv_link.specs.Filled.{objects_of, input_of}
use Rattle.rv_link.proofs.IdleLemmas.{idle_next}
use Rattle.rv_link.proofs.StepsLemmas.{moved_next, patched_step, patched_failed, untaken_by, inside_next}
use Rattle.rv_link.proofs.fixed.Fixed.relocate.Goals as goal

pub apply-requires : goal.apply-requires
apply-requires c = λ has.
    let n = c.loop-relocation.relocation-index in
    let s = c.args.input.now.section.now in
    let r = c.relocation-relocation.result in
    let there = moved_next (moves_in s) s.whole.now.relocations.items c.deref-relocation-items.result.now n zeros_relocation r c.deref-relocation-items.ensures.value c.loop-relocation-test.true c.relocation-relocation.ensures in
    let fits = inside_next _ _ _ _ _ _ _ (relocation_of r) _ _ c.loop-relocation.invariant there has in
    omega (arith, fits, c.new_offset-place.ensures)

pub loop-relocation-preserved-then-is_idle : goal.loop-relocation-preserved-then-is_idle
loop-relocation-preserved-then-is_idle c =
    let s = c.args.input.now.section.now in
    idle_next _ _ _ _ (moves_in s) _ _ _ c.deref-relocation-items.result.now s.whole.now.relocations.items c.loop-relocation.relocation-index zeros_relocation
    c.deref-relocation-items.ensures.value c.loop-relocation-test.true c.loop-relocation.invariant (sym c.is_idle.ensures ∙ c.if-is_idle.true)

pub loop-relocation-preserved : goal.loop-relocation-preserved
loop-relocation-preserved c =
    let n = c.loop-relocation.relocation-index in
    let s = c.args.input.now.section.now in
    let r = c.relocation-relocation.result in
    let there = moved_next (moves_in s) s.whole.now.relocations.items c.deref-relocation-items.result.now n zeros_relocation r c.deref-relocation-items.ensures.value c.loop-relocation-test.true c.relocation-relocation.ensures in
    let v = c.in_ok-value.value in
    let fits : FitsSigned w64 v = search rules in
    let same : to_z w64 (of_z w64 v) ≡ v = to_z-of_z w64 v fits in
    let takes : Takes r.kind v = subst (λ x. Takes r.kind x) same c.in_ok-apply.ensures.takes in
    let old = c.loop-relocation.bytes in
    let writes : c.apply.new.bytes ≡ patched_at (new_offset (moves_of c.args.input.now.placed.now.plan.now) r.place) r.kind v old =
    c.in_ok-apply.ensures.writes ∙ ap (λ x. patched_at c.new_offset-place.result r.kind x old) same ∙ ap (λ k. patched_at k r.kind v old) c.new_offset-place.ensures in
    patched_step _ _ _ _ _ _ _ (relocation_of r) _ old c.apply.new.bytes v c.loop-relocation.invariant there
    c.in_ok-value.ensures.found c.in_ok-value.ensures.alone takes writes (search rules)

pub returns-in_err-value-clause-refuses : goal.returns-in_err-value-clause-refuses
returns-in_err-value-clause-refuses c =
    let n = c.loop-relocation.relocation-index in
    let s = c.args.input.now.section.now in
    let r = c.relocation-relocation.result in
    let there = moved_next (moves_in s) s.whole.now.relocations.items c.deref-relocation-items.result.now n zeros_relocation r c.deref-relocation-items.ensures.value c.loop-relocation-test.true c.relocation-relocation.ensures in
    let found = err_from_is_err_and c.from_residual.result c.from_residual.ensures.1 in
    rw (found.1, found.2) (patched_failed _ _ _ _ _ _ _ (relocation_of r) _ _ c.in_err-value.field-0.0 c.loop-relocation.invariant there c.in_err-value.ensures.refuses)

pub returns-in_err-apply-clause-refuses : goal.returns-in_err-apply-clause-refuses
returns-in_err-apply-clause-refuses c =
    let f = c.args.self.now in
    let n = c.loop-relocation.relocation-index in
    let s = c.args.input.now.section.now in
    let r = c.relocation-relocation.result in
    let there = moved_next (moves_in s) s.whole.now.relocations.items c.deref-relocation-items.result.now n zeros_relocation r c.deref-relocation-items.ensures.value c.loop-relocation-test.true c.relocation-relocation.ensures in
    let v = c.in_ok-value.value in
    let fault = c.in_err-apply.field-0.0 in
    let fits : FitsSigned w64 v = search rules in
    let same : to_z w64 (of_z w64 v) ≡ v = to_z-of_z w64 v fits in
    let told : Refuses r.kind v fault = subst (λ x. Refuses r.kind x fault) same c.in_err-apply.ensures.refuses in
    let found = err_from_is_err_and c.from_residual-in_err-apply.result c.from_residual-in_err-apply.ensures.1 in
    rw (found.1, found.2) (patched_failed _ _ _ _ _ _ _ (relocation_of r) _ _ fault c.loop-relocation.invariant there
    (untaken_by (objects_of f) f.placement.now (input_of f c.args.input.now) (relocation_of r) v fault c.in_ok-value.ensures.found c.in_ok-value.ensures.alone told))
