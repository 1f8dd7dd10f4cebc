use Rattle.std.proofs.Common.{◌≡◌, ◌+◌, ◌*◌, ◌-◌}
use Rattle.std.specs.List.{list_all}
use Rattle.rv_elf_laws.specs.Fields.{number_in, e_phoff}
use Rattle.rv_debug_laws.specs.Stored.{is_behind_header}
use Rattle.rv_debug.proofs.HeadersLemmas.{programs_from}
use Rattle.rv_debug.proofs.executable.are_behind_header.Given as goal

abbrev pub invariant-loop-index : goal.invariant-loop-index
invariant-loop-index l =
    let file = l.view.file.now in let table = number_in e_phoff 0 file in
    list_all (is_behind_header file) (programs_from l.count table file)
    ≡ list_all (is_behind_header file) (programs_from (l.count - l.index) (table + 56 * l.index) file)
