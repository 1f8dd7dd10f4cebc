use Rattle.std.proofs.Common.{◌≡◌, ◌+◌, ◌-◌, false, ap, sym, ◌∙◌, arith}
use Rattle.std.specs.List.{find}
use Rattle.rv_elf_laws.specs.Sections.{section_count, section_header_of}
use Rattle.rv_object_file_laws.specs.Parts.{is_rows}
use Rattle.rv_object_reader.proofs.SectionsFromLemmas.{all_are, find_past}
use Rattle.rv_object_reader.proofs.tables.first_rows.Goals as goal

pub loop-earlier-init : goal.loop-earlier-init
loop-earlier-init c =
    let file = c.args.names.now.view.file.now in
    ap (find (λ s. is_rows file s.header)) (all_are file)

pub loop-earlier-preserved : goal.loop-earlier-preserved
loop-earlier-preserved c =
    let file = c.args.names.now.view.file.now in
    let other : is_rows file (section_header_of file (c.loop-earlier.earlier + 1)) ≡ false =
    sym (ap (is_rows file) c.section_header.ensures) ∙ sym c.is_rows.ensures ∙ c.if-is_rows.false in
    c.loop-earlier.invariant ∙ find_past (λ s. is_rows file s.header) file (section_count file - 1) c.loop-earlier.earlier (omega arith) other
