use Rattle.std.proofs.Common.{◌++◌, arith}
use Rattle.std.proofs.lemmas.List.{take_rest}
use Rattle.rv_listing_laws.specs.Lines.{lines}
use Rattle.rv_listing_laws.proofs.LinesOnLemmas.{lines_more, lines_done}
use Rattle.rv_disasm.proofs.line.put_lines.Goals as goal

pub loop-offset-preserved : goal.loop-offset-preserved
loop-offset-preserved c reader =
    lines_more reader (c.args.text.now.items ++ lines reader 0 c.args.address c.args.bytes.now) c.loop-offset.text.items c.put_kept_line.new.text.items c.args.bytes.now _
    c.args.address c.loop-offset.offset c.in_ok-count.count (take_rest c.args.bytes.now c.loop-offset.offset) c.loop-offset-test.true c.in_ok-count.ensures.some.0
    (c.in_ok-count.ensures.count reader) (c.in_ok-count.ensures.text reader) (c.loop-offset.invariant reader)

pub returns : goal.returns
returns c reader =
    lines_done reader (c.args.text.now.items ++ lines reader 0 c.args.address c.args.bytes.now) c.loop-offset.text.items c.args.bytes.now
    c.args.address c.loop-offset.offset (omega (arith, c.loop-offset-test.false)) (c.loop-offset.invariant reader)
