use Rattle.std.proofs.Common.{◌≡◌, ◌⊎◌, inl, inr, ◌+◌, ◌<◌, ◌/◌, ◌∷◌, Some, length, sym, ap, ◌∙◌, arith}
use Rattle.std.proofs.lemmas.Result.{err_from_is_err_and}
use Rattle.rv_elf_laws.specs.FirstFault.{first_true}
use Rattle.rv_elf_laws.specs.Sections.{relas_in}
use Rattle.rv_fault.specs.declared.file_fault.FileFault.TheVariants.{OutOfMemory}
use Rattle.rv_object_file_laws.specs.FirstFault.{relocations_tests}
use Rattle.rv_object_reader.proofs.RelocationStepsLemmas.{left_of, left_next, step, fault}
use Rattle.rv_object_reader.proofs.relocation_checks.check_relocations.Goals as goal

pub returns-in_err-check_relocation : goal.returns-in_err-check_relocation
returns-in_err-check_relocation c = λ before hold.
    let h = c.args.header.now in let bytes = c.args.records.now in let count = length bytes / 24 in let i = c.loop-index.index in
    let less : i < count = omega (arith, c.loop-index-test.true) in
    let next = left_next count i bytes less ∙ ap (λ r. r ∷ left_of count (i + 1) bytes) (sym c.rela_from-rela.ensures) in
    let g = c.loop-index.invariant before hold in
    let p = err_from_is_err_and c.from_residual.result c.from_residual.ensures.1 in
    let seen : (c.in_err-check_relocation.field-0.0 ≡ OutOfMemory) ⊎ (first_true (relocations_tests h c.args.symbols before (relas_in bytes)) ≡ Some c.in_err-check_relocation.field-0.0) =
    elim (c.in_err-check_relocation.ensures g.mid g.hold) [
      | inl short ↦ inl short
      | inr some ↦ inr (fault h c.args.symbols before (relas_in bytes) _ _ (left_of count i bytes) (left_of count (i + 1) bytes) c.rela_from-rela.result c.in_err-check_relocation.field-0.0 next g some)
    ] in
    rw (p.1, p.2) seen

pub loop-index-preserved : goal.loop-index-preserved
loop-index-preserved c = λ before hold.
    let h = c.args.header.now in let bytes = c.args.records.now in let count = length bytes / 24 in let i = c.loop-index.index in
    let less : i < count = omega (arith, c.loop-index-test.true) in
    let next = left_next count i bytes less ∙ ap (λ r. r ∷ left_of count (i + 1) bytes) (sym c.rela_from-rela.ensures) in
    let g = c.loop-index.invariant before hold in
    let fine = c.in_ok-check_relocation.ensures g.mid g.hold in
    step h c.args.symbols before (relas_in bytes) _ _ _ _ (left_of count i bytes) (left_of count (i + 1) bytes) c.rela_from-rela.result next g fine.0 fine.1
