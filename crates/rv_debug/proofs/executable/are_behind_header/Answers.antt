use Rattle.std.proofs.Common.{◌≡◌, ◌∙◌, ◌+◌, ◌*◌, true, sym, ap}
use Rattle.rv_elf_laws.specs.Fields.{number_in, e_phoff}
use Rattle.rv_elf_laws.specs.Records.{program_header_at}
use Rattle.rv_debug_laws.specs.Stored.{is_behind_header}
use Rattle.rv_debug.proofs.HeadersLemmas.{all_passed}
use Rattle.rv_debug.proofs.executable.are_behind_header.Goals as goal

pub loop-index-preserved : goal.loop-index-preserved
loop-index-preserved c =
    let file = c.args.view.now.file.now in let table = number_in e_phoff 0 file in let count = c.header-count.result.e_phnum in let i = c.loop-index.index in
    let behind : is_behind_header file (program_header_at (table + 56 * i) file) ≡ true =
    ap (is_behind_header file) (sym c.program.ensures) ∙ sym c.is_behind_header.ensures ∙ c.if-not-is_behind_header.false in
    c.loop-index.invariant ∙ all_passed (is_behind_header file) count i table file c.loop-index-test.true behind
