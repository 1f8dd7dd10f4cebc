use Rattle.std.proofs.Common.{◌≡◌, ◌∙◌, ◌+◌, ◌*◌, ◌-◌, ◌++◌, [], ◌∷◌, sym, subst, ap, append_assoc, map, filter}
use Rattle.rv_elf_laws.specs.Fields.{number_in, e_phoff}
use Rattle.rv_elf_laws.specs.Records.{program_header_at}
use Rattle.rv_elf_laws.specs.Sections.{is_load}
use Rattle.rv_image_laws.specs.FirstFault.{programs_from}
use Rattle.rv_image_laws.specs.ImageOf.{segment_in}
use Rattle.rv_image.specs.SegmentView.{segment_of}
use Rattle.rv_image.proofs.LoadedLemmas.{segments_step}
use Rattle.rv_image.proofs.loading.segments.Goals as goal

pub loop-index-preserved : goal.loop-index-preserved
loop-index-preserved c =
    let file = c.args.view.now.file.now in let table = number_in e_phoff 0 file in let count = c.header-count.result.e_phnum in let i = c.loop-index.index in
    let here = map (segment_in file) (filter is_load (program_header_at (table + 56 * i) file ∷ [])) in
    let rest = map (segment_in file) (filter is_load (programs_from (count - (i + 1)) (table + 56 * (i + 1)) file)) in
    let before = map segment_of c.loop-index.segments.items in
    let added = subst (λ p. map segment_of c.add_segment.new.segments.items ≡ before ++ map (segment_in file) (filter is_load (p ∷ []))) c.program.ensures c.in_ok-add_segment.ensures in
    ap (λ s. s ++ rest) added ∙ append_assoc before here rest ∙ ap (λ s. before ++ s) (sym (segments_step count i table file c.loop-index-test.true)) ∙ c.loop-index.invariant
