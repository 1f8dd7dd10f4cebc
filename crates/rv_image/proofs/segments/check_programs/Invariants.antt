use Rattle.std.proofs.Common.{◌≡◌, ◌≤◌, ◌+◌, ◌*◌, ◌-◌, ◌^◌, true, []}
use Rattle.std.specs.List.{list_all}
use Rattle.rv_elf_laws.specs.Fields.{number_in, e_phoff}
use Rattle.rv_elf_laws.specs.FirstFault.{first_true}
use Rattle.rv_image_laws.specs.FirstFault.{programs_tests, ends_by, programs_from}
use Rattle.rv_image.proofs.segments.check_programs.Given as goal

abbrev pub invariant-loop-index : goal.invariant-loop-index
invariant-loop-index l =
    let file = l.view.file.now in let table = number_in e_phoff 0 file in
    (first_true (programs_tests file [] (programs_from l.count table file))
    ≡ first_true (programs_tests file (programs_from l.index table file) (programs_from (l.count - l.index) (table + 56 * l.index) file)))
    × (list_all (ends_by l.highest) (programs_from l.index table file) ≡ true)
    × (l.highest ≤ 2 ^ 65)
