use Rattle.std.proofs.Common.{◌≡◌, ◌⊎◌, inl, inr, ◌+◌, ◌-◌, ◌<◌, [], length, Some, refl, ap, sym, subst, ◌∙◌, arith}
use Rattle.std.proofs.lemmas.Result.{err_from_is_err_and}
use Rattle.rv_elf_laws.specs.FirstFault.{first_true}
use Rattle.rv_elf_laws.specs.Sections.{section_count}
use Rattle.rv_fault.specs.declared.file_fault.FileFault.TheVariants.{OutOfMemory}
use Rattle.rv_object_file_laws.specs.FirstFault.{sections_tests}
use Rattle.rv_object_file_laws.specs.Parts.{is_symbol_table, is_rows, sections}
use Rattle.rv_object_reader.specs.Found.{sections_from}
use Rattle.rv_object_reader.specs.Walk.{HoldBefore}
use Rattle.rv_object_reader.proofs.SectionsFromLemmas.{all_are}
use Rattle.rv_object_reader.proofs.WalkingLemmas.{walk_on, walk_ends, walk_ends_within, any_more, hold_on}
use Rattle.rv_object_reader.proofs.walk.check_sections.Goals as goal

pub loop-earlier-init : goal.loop-earlier-init
loop-earlier-init c =
    let file = c.args.tables.now.names.view.file.now in record {
      held = c.in_ok-held.ensures file (sym (ap (λ h. h.e_shnum) c.header.ensures));
      with_symbols = refl;
      with_rows = refl;
      left = ap (λ ss. first_true (sections_tests file [] ss)) (all_are file);
    }

pub returns-in_err-check_section : goal.returns-in_err-check_section
returns-in_err-check_section c =
    let file = c.args.tables.now.names.view.file.now in
    let i = c.loop-earlier.earlier in
    let was = c.loop-earlier.invariant in
    let below : i < section_count file - 1 = omega (arith, c.count_sections-earlier-end.ensures, c.loop-earlier-test.true) in
    let p = err_from_is_err_and c.from_residual-in_err-check_section.result c.from_residual-in_err-check_section.ensures.1 in
    rw (p.1, p.2) (inr (was.left ∙ walk_ends file (section_count file - 1) i below c.loop-earlier.symbols_before c.loop-earlier.rows_before
    c.section_header-header.result was.with_symbols was.with_rows c.section_header-header.ensures c.in_err-check_section.field-0.0 c.in_err-check_section.ensures.faults))

pub returns-in_err-check_records : goal.returns-in_err-check_records
returns-in_err-check_records c =
    let file = c.args.tables.now.names.view.file.now in
    let i = c.loop-earlier.earlier in
    let was = c.loop-earlier.invariant in
    let fault = c.in_err-check_records.field-0.0 in
    let below : i < section_count file - 1 = omega (arith, c.count_sections-earlier-end.ensures, c.loop-earlier-test.true) in
    let held = subst (HoldBefore file (sections_from file i 1)) (sym c.deref_mut.ensures.value) was.held in
    let p = err_from_is_err_and c.from_residual-in_err-check_records.result c.from_residual-in_err-check_records.ensures.1 in
    let seen : (fault ≡ OutOfMemory) ⊎ (first_true (sections_tests file [] (sections file)) ≡ Some fault) =
    elim (c.in_err-check_records.ensures (sections_from file i 1) (i + 1) held) [
      | inl short ↦ inl short
      | inr some ↦ inr (was.left ∙ walk_ends_within file (section_count file - 1) i below c.loop-earlier.symbols_before c.loop-earlier.rows_before
          c.section_header-header.result was.with_symbols was.with_rows c.section_header-header.ensures fault c.in_ok-check_section.ensures.faults some)
    ] in
    rw (p.1, p.2) seen

pub loop-earlier-preserved : goal.loop-earlier-preserved
loop-earlier-preserved c =
    let file = c.args.tables.now.names.view.file.now in
    let i = c.loop-earlier.earlier in
    let was = c.loop-earlier.invariant in
    let at = c.section_header-header.ensures in
    let below : i < section_count file - 1 = omega (arith, c.count_sections-earlier-end.ensures, c.loop-earlier-test.true) in
    let held = subst (HoldBefore file (sections_from file i 1)) (sym c.deref_mut.ensures.value) was.held in
    let done = c.in_ok-check_records.ensures (sections_from file i 1) (i + 1) held in record {
      held = hold_on file i c.section_header-header.result c.loop-earlier.held.items c.check_records.new.held c.loop-earlier.held.len at
          (omega (arith, c.deref_mut.ensures.len, ap length c.deref_mut.ensures.value)) was.held.long done.1;
      with_symbols = any_more (λ s. is_symbol_table s.header) file i _ _ _ was.with_symbols (c.is_symbol_table.ensures ∙ ap is_symbol_table at) c.either-symbols_before.ensures;
      with_rows = any_more (λ s. is_rows file s.header) file i _ _ _ was.with_rows (c.is_rows.ensures ∙ ap (is_rows file) at) c.either-rows_before.ensures;
      left = was.left ∙ walk_on file (section_count file - 1) i below c.loop-earlier.symbols_before c.loop-earlier.rows_before
          c.section_header-header.result was.with_symbols was.with_rows at c.in_ok-check_section.ensures.faults done.0;
    }
