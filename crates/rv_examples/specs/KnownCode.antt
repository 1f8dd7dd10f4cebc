-- Worked code: instructions whose operands are known, as they lie in memory.

use Rattle.std.specs.Prelude.{ℕ, List, [], ◌∷◌}
use Rattle.rv_expression_laws.specs.Values.{Value, Refused, value_of}
use Rattle.rv_statement_laws.specs.Statement.{Operand, Expression, Register, Value as Of_value}
use Rattle.rv_examples.specs.Exit7.{constant}

-- where no name means anything
abbrev pub without_names : Expression → Value
without_names e = value_of (λ name. Refused 0) e

-- `a0, a0, k`, and `a0, k`
abbrev pub own : ℕ → List Operand
own k = Register 10 ∷ Register 10 ∷ Of_value (constant k) ∷ []

abbrev pub number_operands : ℕ → List Operand
number_operands k = Register 10 ∷ Of_value (constant k) ∷ []

-- `addi a0, a0, 5` as a word and as a parcel
abbrev pub adds_word : List (List ℕ)
adds_word = (0x13 ∷ 0x05 ∷ 0x55 ∷ 0x00 ∷ []) ∷ []

abbrev pub adds_parcel : List (List ℕ)
adds_parcel = (0x15 ∷ 0x05 ∷ []) ∷ []

-- `lui a0, 1` and `addiw a0, a0, -2048`; only the first has a parcel
abbrev pub lower : List ℕ
lower = 0x1b ∷ 0x05 ∷ 0x05 ∷ 0x80 ∷ []

abbrev pub loads_words : List (List ℕ)
loads_words = (0x37 ∷ 0x15 ∷ 0x00 ∷ 0x00 ∷ []) ∷ lower ∷ []

abbrev pub loads_both : List (List ℕ)
loads_both = (0x05 ∷ 0x65 ∷ []) ∷ lower ∷ []
