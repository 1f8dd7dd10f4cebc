use Rattle.std.proofs.Common.{◌++◌, List, ℕ}
use Rattle.rv_debug_laws.specs.Leb128.{IsSigned}
use Rattle.rv_debug.specs.Writing.{AppendsSigned, signed}
use Rattle.rv_debug.proofs.leb128.put_signed.Given as goal

abbrev pub invariant-loop-rest : goal.invariant-loop-rest
invariant-loop-rest l =
    (tail : List ℕ) → IsSigned tail (signed l.negative l.rest) →
    AppendsSigned l.fn.out.items (l.out.items ++ tail) (signed l.negative l.size)

abbrev pub decreases-loop-rest : goal.decreases-loop-rest
decreases-loop-rest l = l.rest
