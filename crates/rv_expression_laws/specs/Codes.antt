-- The codes of a source's faults: the numbers after the `E`.

use Rattle.std.specs.Prelude.{ℕ, Bool, min, List, [], ◌∷◌, Option, Some, None, if◌then◌else◌}

-- a byte that stands in strings and comments alone
abbrev pub bad_byte : ℕ
bad_byte = 1

-- no token, an unclosed string or comment, or a literal of 2 ^ 64 or more
abbrev pub bad_token : ℕ
bad_token = 2

-- parentheses and unary operators nested beyond the limit
abbrev pub nesting_too_deep : ℕ
nesting_too_deep = 3

-- a divisor of 0
abbrev pub division_by_zero : ℕ
division_by_zero = 4

-- a shift by 64 or more
abbrev pub shift_too_large : ℕ
shift_too_large = 5

-- no mnemonic
abbrev pub unknown_mnemonic : ℕ
unknown_mnemonic = 6

-- operands that the mnemonic or the directive does not take
abbrev pub bad_operands : ℕ
bad_operands = 7

-- no directive
abbrev pub unknown_directive : ℕ
unknown_directive = 8

-- spelled by the language, but left out
abbrev pub unsupported_here : ℕ
unsupported_here = 9

-- a scratch register that cannot be used
abbrev pub scratch_register : ℕ
scratch_register = 10

-- a second definition of a symbol's name
abbrev pub duplicate_label : ℕ
duplicate_label = 11

-- a numeric label, or a label of a low part, that is not defined
abbrev pub undefined_local : ℕ
undefined_local = 12

-- a value that has to be a constant and is none
abbrev pub not_constant : ℕ
not_constant = 13

-- a value out of its range
abbrev pub immediate_range : ℕ
immediate_range = 14

-- a statement in a section that cannot hold it
abbrev pub wrong_section : ℕ
wrong_section = 15

-- `.option pop` without its push
abbrev pub option_stack : ℕ
option_stack = 16

-- a source, line, name, alignment or section beyond its limit
abbrev pub limit : ℕ
limit = 17

-- ---- the codes of what has several faults

-- the code of a fault where it is one
abbrev pub faulty_if : Bool → ℕ → List ℕ
faulty_if test code = if test then code ∷ [] else []

-- the lowest of codes
abbrev pub lowest : List ℕ → Option ℕ
lowest [] = None
lowest (c ∷ cs) = elim (lowest cs) [
  | None ↦ Some c
  | Some d ↦ Some (min c d)
]
