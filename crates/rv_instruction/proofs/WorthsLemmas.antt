-- What values are worth to an instruction.

use Rattle.std.proofs.Common.{◌≡◌, Bool, Option, Some, None, refl}
use Rattle.rv_expression_laws.specs.Expression.{Primary}
use Rattle.rv_expression_laws.specs.Values as values
use Rattle.rv_statement_laws.specs.declared.pseudo.Function.TheVariants.{Hi, Lo, PcrelHi, PcrelLo}
use Rattle.rv_statement_laws.specs.declared.pseudo.Function.{Function}
use Rattle.rv_statement.specs.declared.statement.Operation.{Operation}
use Rattle.rv_pseudo.specs.Faults.{constant_in, faults_of}
use Rattle.rv_source_laws.specs.Lines.{constant_of}
use Rattle.rv_assemble_laws.specs.InstructionFaults.{worth}
use Rattle.rv_instruction.specs.Code.{worth_for}

pub constant_worth : (l : Primary → Bool) (v : values.Value) → constant_in (worth l v) ≡ constant_of v
constant_worth l (values.Constant n) = refl
constant_worth l (values.Symbolic symbol at plus) = refl
constant_worth l (values.Difference symbol minus plus) = refl
constant_worth l (values.Faulty code) = refl

-- the faults are the same where labels are not asked for
pub same_worth : (operation : Operation) (function : Option Function) (l : Primary → Bool) (v : values.Value)
    → faults_of operation function (worth_for function l v) ≡ faults_of operation function (worth l v)
same_worth operation None l (values.Constant n) = refl
same_worth operation None l (values.Symbolic symbol at plus) = refl
same_worth operation None l (values.Difference symbol minus plus) = refl
same_worth operation None l (values.Faulty code) = refl
same_worth operation (Some Hi) l (values.Constant n) = refl
same_worth operation (Some Hi) l (values.Symbolic symbol at plus) = refl
same_worth operation (Some Hi) l (values.Difference symbol minus plus) = refl
same_worth operation (Some Hi) l (values.Faulty code) = refl
same_worth operation (Some Lo) l (values.Constant n) = refl
same_worth operation (Some Lo) l (values.Symbolic symbol at plus) = refl
same_worth operation (Some Lo) l (values.Difference symbol minus plus) = refl
same_worth operation (Some Lo) l (values.Faulty code) = refl
same_worth operation (Some PcrelHi) l (values.Constant n) = refl
same_worth operation (Some PcrelHi) l (values.Symbolic symbol at plus) = refl
same_worth operation (Some PcrelHi) l (values.Difference symbol minus plus) = refl
same_worth operation (Some PcrelHi) l (values.Faulty code) = refl
same_worth operation (Some PcrelLo) l v = refl
