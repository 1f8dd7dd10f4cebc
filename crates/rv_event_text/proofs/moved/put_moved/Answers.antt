use Rattle.std.proofs.Common.{arith}
use Rattle.std.proofs.lemmas.Result.{on_ok_weaker}
use Rattle.rv_event_text.proofs.MovedLemmas.{moved_some}
use Rattle.rv_event_text.proofs.moved.put_moved.Goals as goal

pub returns-clause-text : goal.returns-clause-text
returns-clause-text g c =
    on_ok_weaker c.put_bytes.result
    (λ told. moved_some (g.M.Memory.mem c.args.memory.now) c.args.span.address c.args.span.count c.args.name.now c.args.text.now.items c.put.new.text.items c.put_bytes.new.text.items (omega (arith, c.if-span-eq0.false)) c.in_ok-put.ensures told)
    c.put_bytes.ensures.text
