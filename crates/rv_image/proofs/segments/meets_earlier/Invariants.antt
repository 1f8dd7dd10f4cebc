use Rattle.std.proofs.Common.{◌≡◌, ◌+◌, ◌*◌, ◌-◌}
use Rattle.std.specs.List.{list_any}
use Rattle.rv_elf_laws.specs.Fields.{number_in, e_phoff}
use Rattle.rv_image_laws.specs.FirstFault.{do_overlap, programs_from}
use Rattle.rv_image.proofs.segments.meets_earlier.Given as goal

abbrev pub invariant-loop-index : goal.invariant-loop-index
invariant-loop-index l =
    let file = l.view.file.now in let table = number_in e_phoff 0 file in
    list_any (do_overlap l.program) (programs_from l.earlier table file)
    ≡ list_any (do_overlap l.program) (programs_from (l.earlier - l.index) (table + 56 * l.index) file)
