-- What follows from the definitions of InstructionFaults, for all who cite them.

use Rattle.std.proofs.Common.{◌≡◌, ℤ, Bool, Some, ap}
use Rattle.rv_isa_laws.specs.Arithmetic.{signed}
use Rattle.rv_expression_laws.specs.Expression.{Primary}
use Rattle.rv_expression_laws.specs.Values.{Value, Constant, Symbolic, Difference, Faulty}
use Rattle.rv_pseudo_laws.specs.InstructionFaults.{Number}
use Rattle.rv_source_laws.specs.Lines.{constant_of}
use Rattle.rv_assemble_laws.specs.InstructionFaults.{worth}

pub worth_is : (l : Primary → Bool) (v : Value) (k : ℤ) → constant_of v ≡ Some k → worth l v ≡ Number k
worth_is l (Constant n) k e = ap Number (let same : signed 64 n ≡ k = cc in same)
worth_is l (Symbolic symbol at plus) k e = absurd (cc)
worth_is l (Difference symbol minus plus) k e = absurd (cc)
worth_is l (Faulty code) k e = absurd (cc)
