-- Worked code: instructions with an operand that is a symbol, as they lie in memory before the
-- linker fills their fields.

use Rattle.std.specs.Prelude.{ℕ, List, [], ◌∷◌}
use Rattle.rv_expression_laws.specs.Values.{Value, Open, value_of}
use Rattle.rv_statement_laws.specs.Statement.{Operand, Expression, Register, Target}
use Rattle.rv_examples.specs.Refused.{x}

-- where the address of every name is not known yet
abbrev pub with_symbols : Expression → Value
with_symbols e = value_of (λ name. Open) e

-- `x`, and `a0, x`
abbrev pub to_x : List Operand
to_x = Target x ∷ []

abbrev pub own_to_x : List Operand
own_to_x = Register 10 ∷ Target x ∷ []

-- `auipc ra, 0` and `jalr ra, 0(ra)`, as one part
abbrev pub calls_x : List (List ℕ)
calls_x = (0x97 ∷ 0x00 ∷ 0x00 ∷ 0x00 ∷ 0xe7 ∷ 0x80 ∷ 0x00 ∷ 0x00 ∷ []) ∷ []

-- `auipc a0, 0` and `addi a0, a0, 0`, a part each
abbrev pub loads_x : List (List ℕ)
loads_x =
    (0x17 ∷ 0x05 ∷ 0x00 ∷ 0x00 ∷ [])
    ∷ (0x13 ∷ 0x05 ∷ 0x05 ∷ 0x00 ∷ [])
    ∷ []

-- `beqz a0, x` as a parcel, as a word, and as `bnez a0, 8` over `j x`
abbrev pub branches_short : List (List ℕ)
branches_short = (0x01 ∷ 0xc1 ∷ []) ∷ []

abbrev pub branches_word : List (List ℕ)
branches_word = (0x63 ∷ 0x00 ∷ 0x05 ∷ 0x00 ∷ []) ∷ []

abbrev pub branches_over : List (List ℕ)
branches_over =
    (0x63 ∷ 0x14 ∷ 0x05 ∷ 0x00 ∷ [])
    ∷ (0x6f ∷ 0x00 ∷ 0x00 ∷ 0x00 ∷ [])
    ∷ []
