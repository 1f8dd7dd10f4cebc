use Rattle.std.proofs.Common.{◌≡◌, ◌+◌, ◌*◌, ◌-◌}
use Rattle.std.specs.List.{find}
use Rattle.rv_elf_laws.specs.Fields.{number_in, e_phoff}
use Rattle.rv_debug_laws.specs.Stored.{has_bytes}
use Rattle.rv_debug.proofs.HeadersLemmas.{programs_from}
use Rattle.rv_debug.proofs.executable.segment_with.Given as goal

abbrev pub invariant-loop-index : goal.invariant-loop-index
invariant-loop-index l =
    let file = l.view.file.now in let table = number_in e_phoff 0 file in
    find (has_bytes l.region) (programs_from l.count table file)
    ≡ find (has_bytes l.region) (programs_from (l.count - l.index) (table + 56 * l.index) file)
