use Rattle.std.proofs.Common.{◌≡◌, ◌∙◌, ◌+◌, ◌-◌, ◌*◌, ◌/◌, ◌++◌, ◌∷◌, [], length, ap, sym, arith}
use Rattle.rv_list_laws.proofs.ElementsLemmas.{append_one_more}
use Rattle.rv_elf_laws.specs.Records.{symbol_at}
use Rattle.rv_elf_laws.specs.Sections.{records}
use Rattle.rv_object_reader.proofs.RecordsLemmas.{records_behind, records_cut}
use Rattle.rv_debug_sections.proofs.records.records_in.Goals as goal

pub loop-earlier-init : goal.loop-earlier-init
loop-earlier-init c =
    let bytes = c.args.bytes.now in
    let others = c.saturating_sub-others.result in
    ap (λ l. l ++ records symbol_at 24 (others - 0) 24 bytes) c.in_ok-symbols.ensures.items
    ∙ sym (records_behind symbol_at 24 (length bytes / 24) 24 bytes (omega arith)
    ∙ ap (λ m. records symbol_at 24 (m - 0) 24 bytes) (sym c.saturating_sub-others.ensures))

pub loop-earlier-preserved : goal.loop-earlier-preserved
loop-earlier-preserved c =
    let bytes = c.args.bytes.now in
    let others = c.saturating_sub-others.result in
    let i = c.loop-earlier.earlier in
    append_one_more c.loop-earlier.symbols.items _ c.record_from.result (records symbol_at 24 (others - (i + 1)) (24 * (i + 1 + 1)) bytes)
    (records symbol_at 24 (others - i) (24 * (i + 1)) bytes) _ c.in_ok-push.ensures.items
    (records_cut symbol_at 24 others i (24 * (i + 1)) (24 * (i + 1 + 1)) bytes c.loop-earlier-test.true (omega arith)
    ∙ (λ j. sym c.record_from.ensures j ∷ records symbol_at 24 (others - (i + 1)) (24 * (i + 1 + 1)) bytes))
    c.loop-earlier.invariant
