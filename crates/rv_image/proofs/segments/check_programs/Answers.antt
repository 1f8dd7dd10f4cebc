use Rattle.std.proofs.Common.{◌≡◌, ◌∙◌, sym, ap, subst, true, None, Some, []}
use Rattle.std.proofs.lemmas.Result.{err_from_is_err_and}
use Rattle.rv_elf_laws.specs.Fields.{number_in, e_phoff}
use Rattle.rv_elf_laws.specs.FirstFault.{first_true}
use Rattle.rv_elf_laws.specs.Sections.{program_count}
use Rattle.rv_image_laws.specs.FirstFault.{program_tests, programs_tests, ends_by, programs_from}
use Rattle.rv_image.proofs.ProgramsLemmas.{tests_step, tests_stop, all_step, all_end_later}
use Rattle.rv_image.proofs.segments.check_programs.Goals as goal

pub returns-in_err-check_program : goal.returns-in_err-check_program
returns-in_err-check_program c =
    let file = c.args.view.now.file.now in let table = number_in e_phoff 0 file in let count = c.header-count.result.e_phnum in let i = c.loop-index.index in
    let found = subst (λ p. first_true (program_tests file (programs_from i table file) p) ≡ Some c.in_err-check_program.field-0.0) c.program-program.ensures c.in_err-check_program.ensures in
    let p = err_from_is_err_and c.from_residual.result c.from_residual.ensures.1 in
    let many : c.header-count.result.e_phnum ≡ program_count file = ap (λ h. h.e_phnum) c.header-count.ensures in
    rw (p.1, p.2)
    (ap (λ n. first_true (programs_tests file [] (programs_from n table file))) (sym many) ∙ c.loop-index.invariant.0 ∙ tests_stop count i table file c.in_err-check_program.field-0.0 c.loop-index-test.true found)

pub loop-index-preserved : goal.loop-index-preserved
loop-index-preserved c =
    let file = c.args.view.now.file.now in let table = number_in e_phoff 0 file in let count = c.header-count.result.e_phnum in let i = c.loop-index.index in
    let fine = subst (λ p. first_true (program_tests file (programs_from i table file) p) ≡ None) c.program-program.ensures c.in_ok-check_program.ensures in
    let ends = subst (λ p. ends_by c.raised-highest.result p ≡ true) c.program-program.ensures c.raised-highest.ensures.end in (
      c.loop-index.invariant.0 ∙ tests_step count i table file c.loop-index-test.true fine,
      all_step (ends_by c.raised-highest.result) i table file
          (all_end_later c.loop-index.highest c.raised-highest.result (programs_from i table file) c.raised-highest.ensures.before c.loop-index.invariant.1) ends,
      c.raised-highest.ensures.least,
    )
