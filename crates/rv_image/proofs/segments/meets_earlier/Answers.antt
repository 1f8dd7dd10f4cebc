use Rattle.std.proofs.Common.{◌≡◌, ◌∙◌, sym, subst, false}
use Rattle.rv_elf_laws.specs.Fields.{number_in, e_phoff}
use Rattle.rv_image_laws.specs.FirstFault.{do_overlap}
use Rattle.rv_image.proofs.ProgramsLemmas.{any_step}
use Rattle.rv_image.proofs.segments.meets_earlier.Goals as goal

pub loop-index-preserved : goal.loop-index-preserved
loop-index-preserved c =
    let file = c.args.view.now.file.now in
    let apart = subst (λ q. do_overlap c.args.program q ≡ false) c.program-other.ensures (sym c.overlap.ensures ∙ c.if-overlap.false) in
    c.loop-index.invariant ∙ any_step (do_overlap c.args.program) c.args.earlier c.loop-index.index (number_in e_phoff 0 file) file c.loop-index-test.true apart
