use Rattle.std.proofs.lemmas.List.{take_rest}
use Rattle.rv_disasm.proofs.RawLemmas.{begun_more, begun_none}
use Rattle.rv_disasm.proofs.raw.put_codes.Goals as goal

pub loop-offset-preserved : goal.loop-offset-preserved
loop-offset-preserved c =
    begun_more c.args.bytes.now _ c.args.text.now.items c.loop-offset.text.items c.put_code.new.text.items c.loop-offset.offset c.size-offset.result c.in-Some.code
    (take_rest c.args.bytes.now c.loop-offset.offset) c.in-Some.ensures c.size-offset.ensures c.in_ok-put_code-in-Some.ensures c.loop-offset.invariant

pub returns-in-None-clause-none : goal.returns-in-None-clause-none
returns-in-None-clause-none c _ cs codes =
    begun_none c.args.bytes.now _ c.args.text.now.items c.loop-offset.text.items c.loop-offset.offset
    (take_rest c.args.bytes.now c.loop-offset.offset) c.loop-offset-test.true c.in-None.ensures c.loop-offset.invariant cs codes
