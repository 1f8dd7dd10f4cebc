use Rattle.std.proofs.Common.{◌≡◌, ◌<◌, None, drop, subst, ap, sym, ◌∙◌, arith}
use Rattle.std.specs.List.{AllByRecursion}
use Rattle.rv_elf_laws.specs.FirstFault.{first_true}
use Rattle.rv_elf_laws.specs.Sections.{indexed_contents, file_contents, section_count, symbols_in}
use Rattle.rv_object_reader.specs.Found.{section_at}
use Rattle.rv_object_file_laws.specs.FirstFault.{symbol_tests}
use Rattle.rv_object_file_laws.specs.ObjectOf.{names_of}
use Rattle.rv_object_file_laws.specs.Parts.{symbols_of}
use Rattle.rv_object_reader.proofs.CollectingLemmas.{table_linked}
use Rattle.rv_object_reader.proofs.TablesLemmas.{few_sections}
use Rattle.rv_object_reader.proofs.ValidSymbolsLemmas.{IsGoodSymbol, good_symbols}
use Rattle.rv_object_reader.proofs.symbols.symbols.Goals as goal

pub overflow_cast-header : goal.overflow_cast-header
overflow_cast-header c =
    let checked = c.args.checked.now in
    let file = checked.view.file.now in
    let links = table_linked file checked.good (section_at file c.in-Some.table.0) c.in-Some.ensures.found in
    record { fits = omega (arith, links, ap (λ h. h.sh_link) c.section_header-header.ensures, few_sections file checked.good) }

pub section-names-requires : goal.section-names-requires
section-names-requires c =
    let checked = c.args.checked.now in
    let file = checked.view.file.now in
    subst (λ h. h.sh_link < section_count file) (sym c.section_header-header.ensures)
    (table_linked file checked.good (section_at file c.in-Some.table.0) c.in-Some.ensures.found)

pub symbols_in-requires-clause-good : goal.symbols_in-requires-clause-good
symbols_in-requires-clause-good c =
    let checked = c.args.checked.now in
    let file = checked.view.file.now in
    let header = c.section_header-header.ensures in
    let named = ap (names_of file) c.in-Some.ensures.found ∙ ap (λ h. indexed_contents file h.sh_link) (sym header) ∙ sym c.section-names.ensures ∙ sym c.in_ok-strings.ensures in
    let all = ap (symbols_of file) c.in-Some.ensures.found ∙ ap (λ h. symbols_in (file_contents file h)) (sym header) ∙ ap symbols_in (sym c.contents.ensures) in
    subst (λ names. AllByRecursion (λ s. first_true (symbol_tests file names s) ≡ None) (drop 1 (symbols_in c.contents.result.now))) named
    (subst (λ rs. AllByRecursion (IsGoodSymbol file) (drop 1 rs)) all (good_symbols file checked.good))
