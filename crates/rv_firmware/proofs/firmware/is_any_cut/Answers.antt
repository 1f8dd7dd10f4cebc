use Rattle.std.proofs.Common.{◌≡◌, ◌∙◌, ◌+◌, ◌*◌, ◌-◌, ◌||◌, false, sym, ap}
use Rattle.std.specs.List.{list_any}
use Rattle.rv_elf_laws.specs.Fields.{number_in, e_phoff}
use Rattle.rv_elf_laws.specs.Records.{program_header_at}
use Rattle.rv_firmware.specs.FirmwareOf.{is_cut}
use Rattle.rv_firmware.proofs.HeadersLemmas.{headers_from, any_cut}
use Rattle.rv_firmware.proofs.firmware.is_any_cut.Goals as goal

pub loop-index-preserved : goal.loop-index-preserved
loop-index-preserved c =
    let file = c.args.view.now.file.now in let table = number_in e_phoff 0 file in let count = c.header-count.result.e_phnum in let i = c.loop-index.index in
    let other : is_cut file (program_header_at (table + 56 * i) file) ≡ false = ap (is_cut file) (sym c.program.ensures) ∙ sym c.is_cut.ensures ∙ c.if-is_cut.false in
    c.loop-index.invariant ∙ any_cut (is_cut file) count i table file c.loop-index-test.true
    ∙ ap (λ b. b || list_any (is_cut file) (headers_from (count - (i + 1)) (table + 56 * (i + 1)) file)) other
