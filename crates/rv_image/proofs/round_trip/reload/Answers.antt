use Rattle.std.proofs.Common.{◌≡◌, ◌∙◌, ◌<◌, ◌^◌, Option, Some, None, ap, sym, subst, inl, inr}
use Rattle.std.proofs.lemmas.Result.{err_from_is_err_and}
use Rattle.rv_fault.specs.declared.file_fault.FileFault.{FileFault}
use Rattle.rv_image_laws.specs.ImageOf.{ImageOf}
use Rattle.rv_image_laws.specs.FirstFault.{first_fault}
use Rattle.rv_image.specs.Views.{image_of, linked_of}
use Rattle.rv_image_laws.specs.Executable.{exe_of, linked_image}
use Rattle.rv_image.proofs.LoadedAgainLemmas.{laid_out, reload_fault, reload_image, one_image}
use Rattle.rv_image.proofs.round_trip.reload.Goals as goal

not_some : (fault : FileFault) → ◌≡◌ {A = Option FileFault} None (Some fault) → ⊥
not_some fault e = cc

pub returns-in_err-load : goal.returns-in_err-load
returns-in_err-load c =
    let l = linked_of c.args.linked.now in
    let small = subst (λ n. n < 2 ^ 64) c.entry-entry.ensures.value c.entry-entry.ensures.fits in
    let fine = reload_fault l (laid_out c.args.linked.now small) in
    let p = err_from_is_err_and c.from_residual-in_err-load.result c.from_residual-in_err-load.ensures.1 in
    let file = c.deref.ensures.value ∙ c.in_ok-file.ensures in
    let h = c.in_err-load.ensures in
    rw (p.1, p.2) (elim h [ inl out ↦ out | inr found ↦ absurd (not_some c.in_err-load.field-0.0 (sym fine ∙ ap first_fault (sym file) ∙ found)) ])

pub returns : goal.returns
returns c =
    let l = linked_of c.args.linked.now in
    let small = subst (λ n. n < 2 ^ 64) c.entry-entry.ensures.value c.entry-entry.ensures.fits in
    let file = c.deref.ensures.value ∙ c.in_ok-file.ensures in
    one_image (exe_of l) (image_of c.in_ok-load.field-0) (linked_image l)
    (subst (λ f. ImageOf f (image_of c.in_ok-load.field-0)) file c.in_ok-load.ensures.1) (reload_image l (laid_out c.args.linked.now small))
