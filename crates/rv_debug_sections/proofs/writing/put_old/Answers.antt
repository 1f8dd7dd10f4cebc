use Rattle.std.proofs.Common.{◌∙◌, ◌++◌}
use Rattle.rv_debug_laws.specs.File.{retabled}
use Rattle.rv_debug_sections.proofs.WritingLemmas.{to_the_end, wrote_old}
use Rattle.rv_debug_sections.proofs.writing.put_old.Goals as goal

pub returns : goal.returns
returns c =
    wrote_old c.file-file.result.now c.args.out.now _ _ _ c.args.table c.args.count c.header.result.e_shstrndx (to_the_end 64 c.file-file.result.now)
    c.in_ok-put_front.ensures c.in_ok-raw.ensures.ok
    ∙ (λ i. c.args.out.now ++ retabled (c.file-file.ensures i) c.args.table c.args.count (c.header.ensures i).e_shstrndx)
