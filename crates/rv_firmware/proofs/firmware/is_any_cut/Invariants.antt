use Rattle.std.proofs.Common.{◌≡◌, ◌+◌, ◌*◌, ◌-◌}
use Rattle.std.specs.List.{list_any}
use Rattle.rv_elf_laws.specs.Fields.{number_in, e_phoff}
use Rattle.rv_firmware.specs.FirmwareOf.{is_cut}
use Rattle.rv_firmware.proofs.HeadersLemmas.{headers_from}
use Rattle.rv_firmware.proofs.firmware.is_any_cut.Given as goal

abbrev pub invariant-loop-index : goal.invariant-loop-index
invariant-loop-index l =
    let file = l.view.file.now in let table = number_in e_phoff 0 file in
    list_any (is_cut file) (headers_from l.count table file)
    ≡ list_any (is_cut file) (headers_from (l.count - l.index) (table + 56 * l.index) file)
