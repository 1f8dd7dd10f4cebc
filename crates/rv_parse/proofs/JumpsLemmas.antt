-- The operands of `jalr` behind its link register and a comma.

use Rattle.std.proofs.Common.{◌≡◌, ℕ, true, List, [], ◌∷◌, Ok, refl}
use Rattle.rv_expression_laws.specs.Lexing.{Token}
use Rattle.rv_statement_laws.specs.declared.mnemonic.Mnemonic.TheVariants.{Jalr}
use Rattle.rv_statement_laws.specs.Statement.{Register}
use Rattle.rv_parse_laws.specs.Syntax.{A_register, A_comma, front_begins, slots, jump_target}
use Rattle.rv_parse_laws.specs.Parsing.{operand_at, operands_at, seen_as}

pub jalr_linked : (ts us vs : List Token) (rd : ℕ) → front_begins A_register ts ≡ true → operand_at A_register ts ≡ Ok (Register rd ∷ [], us)
    → front_begins (A_comma A_register) us ≡ true → operand_at (A_comma A_register) us ≡ Ok ([], vs)
    → operands_at (slots Jalr) ts ≡ seen_as (λ os. Register rd ∷ os) (seen_as (λ os. os) (operands_at jump_target vs))
unfolding operands_at
jalr_linked ts us vs rd begins first more comma = rw (begins, first, more, comma) refl
