use Rattle.std.proofs.Common.{arith}
use Rattle.std.proofs.lemmas.List.{take_rest}
use Rattle.rv_disasm.specs.Dump.{dump_of}
use Rattle.rv_disasm.proofs.DumpLinesLemmas.{dump_more, dump_done}
use Rattle.rv_disasm.proofs.dump.hex_dump.Goals as goal

pub loop-offset-preserved : goal.loop-offset-preserved
loop-offset-preserved c =
    dump_more (dump_of c.args.bytes.now) c.loop-offset.text.items c.put_line.new.text.items c.args.bytes.now _ c.loop-offset.offset c.min.result
    (take_rest c.args.bytes.now c.loop-offset.offset) c.loop-offset-test.true c.min.ensures c.in_ok-put_line.ensures c.loop-offset.invariant

pub returns : goal.returns
returns c =
    dump_done (dump_of c.args.bytes.now) c.loop-offset.text.items c.args.bytes.now c.loop-offset.offset
    (omega (arith, c.loop-offset-test.false)) c.loop-offset.invariant
