use Rattle.std.proofs.Common.{◌≡◌, ◌∙◌, ◌+◌, ◌*◌, ◌<◌, ◌^◌, sym, ap, not, nat_lt, arith, [], ◌∷◌}
use Rattle.std.proofs.lemmas.Bool.{lt-ltb}
use Rattle.rv_elf_laws.specs.Fields.{number_in, e_phoff}
use Rattle.rv_elf_laws.specs.Records.{program_header_at}
use Rattle.rv_elf_laws.specs.Sections.{program_count}
use Rattle.rv_image_laws.specs.FirstFault.{loaded_size, programs_from}
use Rattle.rv_image.proofs.LoadedLemmas.{loaded_step}
use Rattle.rv_image.proofs.segments.fit_memory.Goals as goal

pub returns-then-size-left : goal.returns-then-size-left
returns-then-size-left c =
    let file = c.args.view.now.file.now in let table = number_in e_phoff 0 file in let count = c.header-count.result.e_phnum in let i = c.loop-index.index in
    let step = loaded_step count i table file c.loop-index-test.true in
    let here : c.memory_of-size.result ≡ loaded_size (program_header_at (table + 56 * i) file ∷ []) = c.memory_of-size.ensures ∙ ap (λ p. loaded_size (p ∷ [])) c.program-program.ensures in
    let large : 2 ^ 28 < loaded_size (programs_from count table file) = omega (arith, c.loop-index.invariant.0, c.loop-index.invariant.1, step, here, c.if-size-left.true) in
    let many : count ≡ program_count file = ap (λ h. h.e_phnum) c.header-count.ensures in
    sym (ap (λ n. not (nat_lt (2 ^ 28) (loaded_size (programs_from n table file)))) (sym many) ∙ ap not (lt-ltb (2 ^ 28) (loaded_size (programs_from count table file)) large))

pub loop-index-preserved : goal.loop-index-preserved
loop-index-preserved c =
    let file = c.args.view.now.file.now in let table = number_in e_phoff 0 file in let count = c.header-count.result.e_phnum in let i = c.loop-index.index in
    let step = loaded_step count i table file c.loop-index-test.true in
    let here : c.memory_of-size.result ≡ loaded_size (program_header_at (table + 56 * i) file ∷ []) = c.memory_of-size.ensures ∙ ap (λ p. loaded_size (p ∷ [])) c.program-program.ensures in
    (omega (arith, c.loop-index.invariant.0, step, here, c.if-size-left.false), omega (arith, c.loop-index.invariant.1))
