use Rattle.std.proofs.lemmas.Bool.{false≢true}
use Rattle.rv_isa_laws.specs.Memory.{Read as ToRead}
use Rattle.rv_memory.proofs.MemoryLemmas.{may-at}
use Rattle.rv_event_text.proofs.MovedLemmas.{bytes_more}
use Rattle.rv_event_text.proofs.moved.put_bytes.Goals as goal

pub loop-k-preserved : goal.loop-k-preserved
loop-k-preserved g c =
    bytes_more (g.M.Memory.mem c.args.memory.now) c.args.span.address c.loop-k.k c.in_ok-byte.byte c.args.text.now.items c.loop-k.text.items c.put_digits.new.text.items c.in_ok-byte.ensures.byte c.loop-k.invariant c.in_ok-put_digits.ensures

pub returns-in_err-byte-clause-refused : goal.returns-in_err-byte-clause-refused
returns-in_err-byte-clause-refused g c = λ readable.
    absurd (false≢true (c.in_err-byte.ensures.found (may-at (g.M.Memory.mem c.args.memory.now) c.args.span.address c.args.span.count c.loop-k.k ToRead c.loop-k-test.true readable)))
