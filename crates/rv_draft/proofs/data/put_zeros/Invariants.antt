use Rattle.std.proofs.Common.{◌≡◌, ◌++◌}
use Rattle.rv_isa_laws.specs.Bytes.{zeros}
use Rattle.rv_draft.proofs.data.put_zeros.Given as goal

abbrev pub invariant-loop : goal.invariant-loop
invariant-loop l = l.bytes.items ≡ l.fn.bytes.items ++ zeros l.counter
