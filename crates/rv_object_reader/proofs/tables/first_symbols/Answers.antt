use Rattle.std.proofs.Common.{◌≡◌, ◌+◌, ◌-◌, false, ap, sym, ◌∙◌, arith}
use Rattle.std.specs.List.{find}
use Rattle.rv_elf_laws.specs.Sections.{section_count, section_header_of}
use Rattle.rv_object_file_laws.specs.Parts.{is_symbol_table}
use Rattle.rv_object_reader.proofs.SectionsFromLemmas.{all_are, find_past}
use Rattle.rv_object_reader.proofs.tables.first_symbols.Goals as goal

pub loop-earlier-init : goal.loop-earlier-init
loop-earlier-init c = ap (find (λ s. is_symbol_table s.header)) (all_are c.args.names.now.view.file.now)

pub loop-earlier-preserved : goal.loop-earlier-preserved
loop-earlier-preserved c =
    let file = c.args.names.now.view.file.now in
    let other : is_symbol_table (section_header_of file (c.loop-earlier.earlier + 1)) ≡ false =
    sym (ap is_symbol_table c.section_header.ensures) ∙ sym c.is_symbol_table.ensures ∙ c.if-is_symbol_table.false in
    c.loop-earlier.invariant ∙ find_past (λ s. is_symbol_table s.header) file (section_count file - 1) c.loop-earlier.earlier (omega arith) other
