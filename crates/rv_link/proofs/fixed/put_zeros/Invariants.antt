use Rattle.std.proofs.Common.{◌≡◌, ◌++◌}
use Rattle.rv_isa_laws.specs.Bytes.{zeros}
use Rattle.rv_link.proofs.fixed.put_zeros.Given as goal

abbrev pub invariant-loop : goal.invariant-loop
invariant-loop l = l.out.items ≡ l.fn.out.items ++ zeros l.counter
