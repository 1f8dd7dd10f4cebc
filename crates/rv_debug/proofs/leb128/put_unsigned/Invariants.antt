use Rattle.std.proofs.Common.{◌++◌, List, ℕ}
use Rattle.rv_debug_laws.specs.Leb128.{IsUnsigned}
use Rattle.rv_debug.specs.Writing.{AppendsUnsigned}
use Rattle.rv_debug.proofs.leb128.put_unsigned.Given as goal

abbrev pub invariant-loop-rest : goal.invariant-loop-rest
invariant-loop-rest l =
    (tail : List ℕ) → IsUnsigned tail l.rest → AppendsUnsigned l.fn.out.items (l.out.items ++ tail) l.number

abbrev pub decreases-loop-rest : goal.decreases-loop-rest
decreases-loop-rest l = l.rest
