use Rattle.std.proofs.Common.{◌≡◌, ◌∙◌, ◌+◌, ◌*◌, ◌-◌, ◌++◌, [], ◌∷◌, sym, ap, subst, map, append_assoc}
use Rattle.std.specs.List.{list_any, list_all}
use Rattle.std.proofs.lemmas.Bool.{and_parts, or_parts}
use Rattle.rv_elf_laws.specs.Fields.{number_in, e_phoff}
use Rattle.rv_elf_laws.specs.Records.{program_header_at}
use Rattle.rv_firmware.specs.Blocks.{block_of}
use Rattle.rv_firmware.specs.FirmwareOf.{is_cut, is_low}
use Rattle.rv_firmware.proofs.HeadersLemmas.{headers_from, any_cut, all_cut, kept, kept_cut}
use Rattle.rv_firmware.proofs.firmware.blocks.Goals as goal

pub loop-index-preserved : goal.loop-index-preserved
loop-index-preserved c =
    let file = c.args.view.now.file.now in let table = number_in e_phoff 0 file in let count = c.header-count.result.e_phnum in let i = c.loop-index.index in
    let here = program_header_at (table + 56 * i) file in
    let rest = headers_from (count - (i + 1)) (table + 56 * (i + 1)) file in
    let before = map block_of c.loop-index.blocks.items in
    let told = subst (λ f. map block_of c.put_block.new.blocks.items ≡ before ++ kept f (c.program.result ∷ [])) c.file.ensures c.in_ok-put_block.ensures in
    let added = subst (λ p. map block_of c.put_block.new.blocks.items ≡ before ++ kept file (p ∷ [])) c.program.ensures told in
    let whole = sym (any_cut (is_cut file) count i table file c.loop-index-test.true) ∙ c.loop-index.invariant.1 in
    let low = sym (all_cut is_low count i table file c.loop-index-test.true) ∙ c.loop-index.invariant.2 in (
      ap (λ s. s ++ kept file rest) added ∙ append_assoc before (kept file (here ∷ [])) (kept file rest)
          ∙ ap (λ s. before ++ s) (sym (kept_cut count i table file c.loop-index-test.true)) ∙ c.loop-index.invariant.0,
      (or_parts (is_cut file here) (list_any (is_cut file) rest) whole).1,
      (and_parts (is_low here) (list_all is_low rest) low).1,
    )
