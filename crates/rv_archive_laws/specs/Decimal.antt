-- The numbers in a member's head: decimal digits with blanks behind them (System V, "ar").

use Rattle.std.specs.Prelude.{ℕ, ◌+◌, ◌*◌, ◌-◌, ◌==◌, Bool, false, List, [], ◌∷◌, Option, Some, None, if◌then◌else◌}
use Rattle.std.specs.List.{list_all}
use Rattle.std.specs.Char.{is_ascii_digit}

abbrev pub is_blank : ℕ → Bool
is_blank byte = byte == 32

-- a number whose first digits have this value: digits up to the end, or up to blanks alone
abbrev pub decimal_from : ℕ → List ℕ → Option ℕ
decimal_from n [] = Some n
decimal_from n (byte ∷ bytes) =
    if is_ascii_digit byte then decimal_from (10 * n + (byte - 48)) bytes
    else if list_all is_blank (byte ∷ bytes) then Some n
    else None

abbrev pub begins_number : List ℕ → Bool
begins_number [] = false
begins_number (byte ∷ bytes) = is_ascii_digit byte

-- a number of one digit or more
abbrev pub decimal : List ℕ → Option ℕ
decimal field = if begins_number field then decimal_from 0 field else None
