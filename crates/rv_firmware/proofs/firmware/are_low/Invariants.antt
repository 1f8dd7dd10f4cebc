use Rattle.std.proofs.Common.{◌≡◌, ◌+◌, ◌*◌, ◌-◌}
use Rattle.std.specs.List.{list_all}
use Rattle.rv_elf_laws.specs.Fields.{number_in, e_phoff}
use Rattle.rv_firmware.specs.FirmwareOf.{is_low}
use Rattle.rv_firmware.proofs.HeadersLemmas.{headers_from}
use Rattle.rv_firmware.proofs.firmware.are_low.Given as goal

abbrev pub invariant-loop-index : goal.invariant-loop-index
invariant-loop-index l =
    let file = l.view.file.now in let table = number_in e_phoff 0 file in
    list_all is_low (headers_from l.count table file)
    ≡ list_all is_low (headers_from (l.count - l.index) (table + 56 * l.index) file)
