use Rattle.std.proofs.Common.{◌∙◌, ◌+◌, ◌++◌, ap, length, replicate}
use Rattle.rv_debug_laws.specs.File.{with_table}
use Rattle.rv_debug.proofs.ChainLemmas.{to_the_end}
use Rattle.rv_debug.proofs.WritingLemmas.{wrote_executable}
use Rattle.rv_debug.proofs.writing.put_executable.Goals as goal

pub returns : goal.returns
returns c =
    wrote_executable c.args.exe.now c.args.out.now _ _ _ _ (length c.args.exe.now + c.gap_behind-gap.result) c.gap_behind-gap.result
    (ap (λ n. length c.args.exe.now + n) c.gap_behind-gap.ensures) (to_the_end 64 c.args.exe.now) c.in_ok-put_front.ensures c.in_ok-raw.ensures.ok
    c.in_ok-zeros.ensures.ok
    ∙ ap (λ n. c.args.out.now ++ (with_table c.args.exe.now ++ replicate n 0)) c.gap_behind-gap.ensures
