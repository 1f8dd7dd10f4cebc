use Rattle.std.proofs.Common.{◌≡◌, ◌∙◌, ◌+◌, ◌-◌, ◌*◌, ◌<◌, ◌∷◌, sym, ap, arith}
use Rattle.rv_list_laws.proofs.ElementsLemmas.{append_one_more}
use Rattle.rv_elf_laws.specs.Fields.{number_in, e_shoff}
use Rattle.rv_elf_laws.specs.Records.{section_header_at}
use Rattle.rv_elf_laws.specs.Sections.{records, section_count}
use Rattle.rv_debug_sections.proofs.WritingLemmas.{record_more}
use Rattle.rv_debug_sections.proofs.headers.headers_in.Goals as goal

pub loop-index-preserved : goal.loop-index-preserved
loop-index-preserved c =
    let file = c.args.view.now.file.now in
    let i = c.loop-index.index in
    let n = section_count file in
    let at = number_in e_shoff 0 file in
    let count : c.header-index-end.result.e_shnum ≡ n = ap (λ h. h.e_shnum) c.header-index-end.ensures in
    let some : 0 < n - i = omega (arith, count) in
    let next : at + 64 * i + 64 ≡ at + 64 * (i + 1) = omega arith in
    let left : n - i - 1 ≡ n - (i + 1) = omega arith in
    append_one_more c.loop-index.headers.items _ c.section_header.result (records section_header_at 64 (n - (i + 1)) (at + 64 * (i + 1)) file)
    (records section_header_at 64 (n - i) (at + 64 * i) file) _ c.in_ok-push.ensures.items
    (record_more file (at + 64 * i) (n - i) some
    ∙ (λ j. sym c.section_header.ensures j ∷ records section_header_at 64 (left j) (next j) file))
    c.loop-index.invariant
