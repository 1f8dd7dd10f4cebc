use Rattle.std.proofs.Common.{◌∙◌, ap, [], map, filter}
use Rattle.rv_elf_laws.specs.Fields.{number_in, e_entry, e_phoff}
use Rattle.rv_elf_laws.specs.Sections.{program_headers, program_count, is_load}
use Rattle.rv_image_laws.specs.ImageOf.{segment_in}
use Rattle.rv_image.proofs.LoadedLemmas.{programs_loadable}
use Rattle.rv_image.proofs.ApartLemmas.{loaded_apart, loaded_memory}
use Rattle.rv_image.proofs.WholeLemmas.{parts, header_says, type_says, whole_says}
use Rattle.rv_image.proofs.loading.load.Goals as goal

pub segments-requires : goal.segments-requires
segments-requires c =
    let file = c.args.file.now in
    rw c.in_ok-view.ensures.file (programs_loadable file [] (program_count file) (number_in e_phoff 0 file) (parts file c.in_ok-view.ensures.faults).programs)

pub invariant_of-result : goal.invariant_of-result
invariant_of-result c =
    let file = c.args.file.now in
    let fine = parts file c.in_ok-view.ensures.faults in
    let whole = whole_says file fine.whole in
    let entry = ap (λ h. h.e_entry) c.header.ensures ∙ ap (number_in e_entry 0) c.in_ok-view.ensures.file in
    let segments = c.in_ok-segments.ensures ∙ ap (λ f. map (segment_in f) (filter is_load (program_headers f))) c.in_ok-view.ensures.file in
    record {
      even = rw entry whole.0;
      apart = rw segments (loaded_apart file [] (program_headers file) fine.programs);
      limit = rw (segments, loaded_memory file [] (program_headers file) fine.programs) whole.1;
    }

pub returns : goal.returns
returns c =
    let file = c.args.file.now in
    let fine = parts file c.in_ok-view.ensures.faults in
    let header = header_says file fine.header in (
      c.in_ok-view.ensures.faults,
      record {
        magic = header.magic;
        class = header.class;
        order = header.order;
        version = header.version;
        executable = type_says file fine.executable;
        riscv = header.riscv;
        entry = ap (λ h. h.e_entry) c.header.ensures ∙ ap (number_in e_entry 0) c.in_ok-view.ensures.file;
        segments = c.in_ok-segments.ensures ∙ ap (λ f. map (segment_in f) (filter is_load (program_headers f))) c.in_ok-view.ensures.file;
      },
    )
