use Rattle.std.proofs.Common.{◌≡◌, ◌++◌}
use Rattle.rv_isa_laws.specs.Memory.{bytes_at}
use Rattle.rv_event_text_laws.specs.EventLine.{hex_bytes}
use Rattle.rv_event_text.proofs.moved.put_bytes.Given as goal

abbrev pub invariant-loop-k : goal.invariant-loop-k
invariant-loop-k g l = l.text.items ≡ l.fn.text.items ++ hex_bytes (bytes_at (g.M.Memory.mem l.memory) l.span.address l.k)
