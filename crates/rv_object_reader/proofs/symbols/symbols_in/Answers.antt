use Rattle.std.proofs.Common.{◌≡◌, ◌+◌, ◌*◌, ◌-◌, ◌/◌, length, drop, map, None, ap, sym, ◌∙◌, arith}
use Rattle.rv_elf_laws.specs.FirstFault.{first_true}
use Rattle.rv_elf_laws.specs.Records.{symbol_at}
use Rattle.rv_elf_laws.specs.Sections.{records, symbols_in}
use Rattle.rv_object_types.specs.Parts.{symbol_of}
use Rattle.rv_object_file_laws.specs.FirstFault.{symbol_tests}
use Rattle.rv_object_file_laws.specs.ObjectOf.{symbol_in}
use Rattle.rv_object_reader.proofs.MadeLemmas.{records_next, records_behind, so_far_start, so_far_more}
use Rattle.rv_object_reader.proofs.symbols.symbols_in.Goals as goal

pub loop-earlier-init : goal.loop-earlier-init
loop-earlier-init c =
    let file = c.args.checked.now.view.file.now in
    let bytes = c.args.bytes.now in
    so_far_start (λ s. first_true (symbol_tests file c.args.names.now.table.now s) ≡ None) (symbol_in file) (drop 1 (symbols_in bytes)) _ _ c.requires.good
    (ap (map symbol_of) c.in_ok-symbols.ensures.items)
    (sym (records_behind symbol_at 24 (length bytes / 24) 24 bytes (omega arith)
    ∙ ap (λ m. records symbol_at 24 (m - 0) 24 bytes) (sym c.saturating_sub-others.ensures)))

pub loop-earlier-preserved : goal.loop-earlier-preserved
loop-earlier-preserved c =
    let file = c.args.checked.now.view.file.now in
    let bytes = c.args.bytes.now in let others = c.saturating_sub-others.result in let i = c.loop-earlier.earlier in
    so_far_more (λ s. first_true (symbol_tests file c.args.names.now.table.now s) ≡ None) (symbol_in file) (drop 1 (symbols_in bytes)) symbol_of
    c.loop-earlier.symbols.items c.push.new.self.items (symbol_at (24 * (i + 1)) bytes) c.symbol.result
    _ (records symbol_at 24 (others - (i + 1)) (24 * (i + 1 + 1)) bytes) c.loop-earlier.invariant
    (records_next symbol_at 24 others i (24 * (i + 1)) (24 * (i + 1 + 1)) bytes c.loop-earlier-test.true (omega arith))
    (c.symbol.ensures ∙ ap (symbol_in file) c.symbol_from.ensures) c.in_ok-push.ensures.items
