use Rattle.std.proofs.Common.{◌≡◌, ◌≤◌, ◌+◌, ◌*◌, ◌-◌, ◌^◌}
use Rattle.rv_elf_laws.specs.Fields.{number_in, e_phoff}
use Rattle.rv_image_laws.specs.FirstFault.{loaded_size, programs_from}
use Rattle.rv_image.proofs.segments.fit_memory.Given as goal

abbrev pub invariant-loop-index : goal.invariant-loop-index
invariant-loop-index l =
    let file = l.view.file.now in let table = number_in e_phoff 0 file in
    (loaded_size (programs_from l.count table file) + l.left ≡ loaded_size (programs_from (l.count - l.index) (table + 56 * l.index) file) + 2 ^ 28)
    × (l.left ≤ 2 ^ 28)
