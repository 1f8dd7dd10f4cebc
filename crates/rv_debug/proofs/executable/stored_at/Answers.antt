use Rattle.std.proofs.Common.{◌≡◌, ◌∙◌, Some, rules, sym}
use Rattle.rv_elf_laws.specs.Sections.{program_headers}
use Rattle.rv_debug.proofs.HeadersLemmas.{starts_before}
use Rattle.rv_debug.proofs.executable.stored_at.Goals as goal

pub overflow_sub-region : goal.overflow_sub-region
overflow_sub-region c =
    let is : c.segment_with.result ≡ Some c.in_ok-program.program = search rules in
    starts_before c.args.region (program_headers c.args.view.now.file.now) c.in_ok-program.program (sym c.segment_with.ensures ∙ is)
