use Rattle.std.proofs.Common.{◌≡◌, ◌∙◌, ◌+◌, ◌*◌, ◌-◌, ◌&&◌, true, sym, ap}
use Rattle.std.specs.List.{list_all}
use Rattle.rv_elf_laws.specs.Fields.{number_in, e_phoff}
use Rattle.rv_elf_laws.specs.Records.{program_header_at}
use Rattle.rv_firmware.specs.FirmwareOf.{is_low}
use Rattle.rv_firmware.proofs.HeadersLemmas.{headers_from, all_cut}
use Rattle.rv_firmware.proofs.firmware.are_low.Goals as goal

pub loop-index-preserved : goal.loop-index-preserved
loop-index-preserved c =
    let file = c.args.view.now.file.now in let table = number_in e_phoff 0 file in let count = c.header-header.result.e_phnum in let i = c.loop-index.index in
    let low : is_low (program_header_at (table + 56 * i) file) ≡ true = ap is_low (sym c.program.ensures) ∙ sym c.is_low.ensures ∙ c.if-not-is_low.false in
    c.loop-index.invariant ∙ all_cut is_low count i table file c.loop-index-test.true
    ∙ ap (λ b. b && list_all is_low (headers_from (count - (i + 1)) (table + 56 * (i + 1)) file)) low
