-- Worked sources whose sizes of branches are the least that reach: `x:`, and a branch to `x` and so
-- many bytes more, where compressed code is on.

use Rattle.std.specs.Prelude.{ℕ, List, [], ◌∷◌, codes}
use Rattle.rv_expression_laws.specs.declared.operator.BinaryOperator.TheVariants.{Add}
use Rattle.rv_expression_laws.specs.Expression.{Binary}
use Rattle.rv_statement_laws.specs.declared.mnemonic.Mnemonic.TheVariants.{ZeroBranch}
use Rattle.rv_statement_laws.specs.declared.pseudo.ZeroBranchOperation.TheVariants.{Beqz}
use Rattle.rv_statement_laws.specs.Statement.{StatementKind, Label, Instruction, Statement, Expression, Register, Target}
use Rattle.rv_unit_laws.specs.Tables.{tables}
use Rattle.rv_source_laws.specs.Located.{located}
use Rattle.rv_source_laws.specs.Sizes.{AreLeast}
use Rattle.rv_examples.specs.Exit7.{on_line, constant}
use Rattle.rv_examples.specs.Refused.{x}

-- `x + k`
abbrev pub beyond : ℕ → Expression
beyond k = Binary Add x (constant k)

-- `beqz a0, e`
abbrev pub beqz_a0 : Expression → StatementKind
beqz_a0 e = Instruction (ZeroBranch Beqz) (Register 10 ∷ Target e ∷ [])

abbrev pub after_label : StatementKind → List Statement
after_label s = on_line 1 (Label (codes "x")) ∷ on_line 2 s ∷ []

-- the label has no bytes, and the branch these
abbrev pub IsLeastSize : StatementKind → ℕ → Type 0
IsLeastSize s bytes =
    AreLeast (tables (after_label s)) (located (after_label s ∷ [])) (0 ∷ bytes ∷ [])
