use Rattle.std.proofs.Common.{◌≡◌, ◌+◌, ◌*◌, ◌-◌, ◌++◌, map, filter}
use Rattle.rv_elf_laws.specs.Fields.{number_in, e_phoff}
use Rattle.rv_elf_laws.specs.Sections.{is_load}
use Rattle.rv_image_laws.specs.FirstFault.{programs_from}
use Rattle.rv_image_laws.specs.ImageOf.{segment_in}
use Rattle.rv_image.specs.SegmentView.{segment_of}
use Rattle.rv_image.proofs.loading.segments.Given as goal

abbrev pub invariant-loop-index : goal.invariant-loop-index
invariant-loop-index l =
    let file = l.view.file.now in let table = number_in e_phoff 0 file in
    map segment_of l.segments.items
    ++ map (segment_in file) (filter is_load (programs_from (l.count - l.index) (table + 56 * l.index) file))
    ≡ map (segment_in file) (filter is_load (programs_from l.count table file))
