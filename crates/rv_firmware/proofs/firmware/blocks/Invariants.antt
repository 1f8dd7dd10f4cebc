use Rattle.std.proofs.Common.{◌≡◌, ◌+◌, ◌*◌, ◌-◌, ◌++◌, true, false, map}
use Rattle.std.specs.List.{list_any, list_all}
use Rattle.rv_elf_laws.specs.Fields.{number_in, e_phoff}
use Rattle.rv_firmware.specs.Blocks.{block_of}
use Rattle.rv_firmware.specs.FirmwareOf.{is_cut, is_low}
use Rattle.rv_firmware.proofs.HeadersLemmas.{headers_from, kept}
use Rattle.rv_firmware.proofs.firmware.blocks.Given as goal

abbrev pub invariant-loop-index : goal.invariant-loop-index
invariant-loop-index l =
    let file = l.view.file.now in let table = number_in e_phoff 0 file in
    let rest = headers_from (l.count - l.index) (table + 56 * l.index) file in
    (map block_of l.blocks.items ++ kept file rest ≡ kept file (headers_from l.count table file))
    × (list_any (is_cut file) rest ≡ false)
    × (list_all is_low rest ≡ true)
