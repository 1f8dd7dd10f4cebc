use Rattle.std.proofs.Common.{◌≡◌, ◌∙◌, ◌+◌, ◌*◌, true, false, Some, sym, ap}
use Rattle.std.specs.List.{find}
use Rattle.rv_elf_laws.specs.Fields.{number_in, e_phoff}
use Rattle.rv_elf_laws.specs.Records.{program_header_at}
use Rattle.rv_debug_laws.specs.Stored.{has_bytes}
use Rattle.rv_debug.proofs.HeadersLemmas.{find_found, find_passed, programs_from}
use Rattle.rv_debug.proofs.executable.segment_with.Goals as goal

pub loop-index-preserved : goal.loop-index-preserved
loop-index-preserved c =
    let file = c.args.view.now.file.now in let table = number_in e_phoff 0 file in let count = c.header-count.result.e_phnum in let i = c.loop-index.index in
    let other : has_bytes c.args.region (program_header_at (table + 56 * i) file) ≡ false =
    ap (has_bytes c.args.region) (sym c.program-program.ensures) ∙ sym c.has_bytes.ensures ∙ c.if-has_bytes.false in
    c.loop-index.invariant ∙ find_passed (has_bytes c.args.region) count i table file c.loop-index-test.true other

pub returns-then-has_bytes : goal.returns-then-has_bytes
returns-then-has_bytes c =
    let file = c.args.view.now.file.now in let table = number_in e_phoff 0 file in let count = c.header-count.result.e_phnum in let i = c.loop-index.index in
    let this : has_bytes c.args.region (program_header_at (table + 56 * i) file) ≡ true =
    ap (has_bytes c.args.region) (sym c.program-program.ensures) ∙ sym c.has_bytes.ensures ∙ c.if-has_bytes.true in
    ap Some c.program-program.ensures
    ∙ sym (c.loop-index.invariant ∙ find_found (has_bytes c.args.region) count i table file c.loop-index-test.true this)
    ∙ ap (λ n. find (has_bytes c.args.region) (programs_from n table file)) (ap (λ h. h.e_phnum) c.header-count.ensures)
