use Rattle.std.proofs.Common.{◌∙◌, ◌+◌, ◌-◌, ◌*◌, ◌/◌, ◌∷◌, length, map, ap, sym, arith}
use Rattle.rv_list_laws.proofs.ElementsLemmas.{append_one_more}
use Rattle.rv_elf_laws.specs.declared.rela.Rela.{Rela}
use Rattle.rv_elf_laws.specs.Records.{rela_at}
use Rattle.rv_elf_laws.specs.Sections.{records}
use Rattle.rv_object_reader.proofs.RecordsLemmas.{records_cut}
use Rattle.rv_debug_sections.proofs.references.put_symbols.Goals as goal

pub loop-index-preserved : goal.loop-index-preserved
loop-index-preserved c =
    let bytes = c.args.records.now in
    let n = length bytes / 24 in
    let i = c.loop-index.index in
    let symbols = map (λ (r : Rela). r.r_sym) in
    let rest = records rela_at 24 (n - (i + 1)) (24 * (i + 1)) bytes in
    append_one_more c.loop-index.numbers.items _ c.rela_from.result.r_sym (symbols rest)
    (symbols (records rela_at 24 (n - i) (24 * i) bytes)) _ c.in_ok-push.ensures.items
    (ap symbols (records_cut rela_at 24 n i (24 * i) (24 * (i + 1)) bytes (omega arith) (omega arith)
    ∙ (λ j. sym c.rela_from.ensures j ∷ rest)))
    c.loop-index.invariant
