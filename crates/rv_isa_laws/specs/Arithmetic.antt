-- Arithmetic on whole numbers below 2 ^ 64 (ISA, chapters 2, 5 and 7). Signed numbers are whole
-- numbers with a sign: `pos n` is n, `negsuc n` is -(n + 1).

use Rattle.std.specs.Prelude.{ℕ, suc, ℤ, pos, negsuc, ◌+◌, ◌-◌, ◌*◌, ◌/◌, ◌%◌, ◌^◌, ◌*ℤ◌, Bool, if◌then◌else◌, nat_lt, int_lt, int_div, int_rem, ◌==◌}

-- a number with a sign, modulo 2 ^ 64
abbrev pub wrapped : ℤ → ℕ
wrapped (pos n) = n % 2 ^ 64
wrapped (negsuc n) = 2 ^ 64 - 1 - n % 2 ^ 64

-- the signed value of a number of `bits` bits: two's complement (ISA, 2.1 and 2.4)
abbrev pub signed : ℕ → ℕ → ℤ
signed bits n = if nat_lt n (2 ^ (bits - 1)) then pos n else negsuc (2 ^ bits - suc n)

-- a number of `bits` bits sign-extended to 64 (ISA, 2.3)
abbrev pub extended : ℕ → ℕ → ℕ
extended bits n = wrapped (signed bits n)

-- the low 32 bits, on which the W forms work (ISA, 5.2)
abbrev pub low : ℕ → ℕ
low n = n % 2 ^ 32

-- the quotient rounded down: z / d for d > 0
abbrev pub floor : ℤ → ℕ → ℤ
floor (pos n) d = pos (n / d)
floor (negsuc n) d = negsuc (n / d)

abbrev pub one_if : Bool → ℕ
one_if b = if b then 1 else 0

-- ---- add, sub, slt, sltu and the shifts (ISA, 2.4)
-- a shift takes the low 6 bits of its amount (ISA, 5.2)

abbrev pub sum_of : ℕ → ℕ → ℕ
sum_of a b = (a + b) % 2 ^ 64

abbrev pub difference_of : ℕ → ℕ → ℕ
difference_of a b = (a + (2 ^ 64 - b)) % 2 ^ 64

abbrev pub less_signed : ℕ → ℕ → Bool
less_signed a b = int_lt (signed 64 a) (signed 64 b)

abbrev pub shifted_left : ℕ → ℕ → ℕ
shifted_left a by = (a * 2 ^ (by % 64)) % 2 ^ 64

abbrev pub shifted_right : ℕ → ℕ → ℕ
shifted_right a by = a / 2 ^ (by % 64)

abbrev pub shifted_right_signed : ℕ → ℕ → ℕ
shifted_right_signed a by = wrapped (floor (signed 64 a) (2 ^ (by % 64)))

-- ---- the same in the W forms (ISA, 5.2)
-- low 32 bits in, sign-extended out; the low 5 bits of an amount

abbrev pub word_sum : ℕ → ℕ → ℕ
word_sum a b = extended 32 (low (a + b))

abbrev pub word_difference : ℕ → ℕ → ℕ
word_difference a b = extended 32 (low (a + (2 ^ 64 - b)))

abbrev pub word_shifted_left : ℕ → ℕ → ℕ
word_shifted_left a by = extended 32 (low (a * 2 ^ (by % 32)))

abbrev pub word_shifted_right : ℕ → ℕ → ℕ
word_shifted_right a by = extended 32 (low a / 2 ^ (by % 32))

abbrev pub word_shifted_right_signed : ℕ → ℕ → ℕ
word_shifted_right_signed a by = wrapped (floor (signed 32 (low a)) (2 ^ (by % 32)))

-- ---- products (ISA, 7.1)
-- the low 64 bits, and the high 64 of signed, unsigned, signed by unsigned

abbrev pub product_of : ℕ → ℕ → ℕ
product_of a b = (a * b) % 2 ^ 64

abbrev pub high_signed : ℕ → ℕ → ℕ
high_signed a b = wrapped (floor (signed 64 a *ℤ signed 64 b) (2 ^ 64))

abbrev pub high_unsigned : ℕ → ℕ → ℕ
high_unsigned a b = (a * b) / 2 ^ 64

abbrev pub high_mixed : ℕ → ℕ → ℕ
high_mixed a b = wrapped (floor (signed 64 a *ℤ pos b) (2 ^ 64))

abbrev pub word_product : ℕ → ℕ → ℕ
word_product a b = extended 32 (low (a * b))

-- ---- quotients toward zero and their remainders (ISA, 7.2). By 0: all ones, and the dividend.
-- The one quotient that is out of range, of the least number by -1, is the least number again
-- modulo 2 ^ 64.

abbrev pub quotient : ℕ → ℕ → ℕ
quotient a b = if b == 0 then 2 ^ 64 - 1 else wrapped (int_div (signed 64 a) (signed 64 b))

abbrev pub quotient_unsigned : ℕ → ℕ → ℕ
quotient_unsigned a b = if b == 0 then 2 ^ 64 - 1 else a / b

abbrev pub remainder : ℕ → ℕ → ℕ
remainder a b = if b == 0 then a else wrapped (int_rem (signed 64 a) (signed 64 b))

abbrev pub remainder_unsigned : ℕ → ℕ → ℕ
remainder_unsigned a b = if b == 0 then a else a % b

abbrev pub word_quotient : ℕ → ℕ → ℕ
word_quotient a b =
    if low b == 0 then 2 ^ 64 - 1
    else extended 32 (low (wrapped (int_div (signed 32 (low a)) (signed 32 (low b)))))

abbrev pub word_quotient_unsigned : ℕ → ℕ → ℕ
word_quotient_unsigned a b = if low b == 0 then 2 ^ 64 - 1 else extended 32 (low a / low b)

abbrev pub word_remainder : ℕ → ℕ → ℕ
word_remainder a b =
    if low b == 0 then extended 32 (low a)
    else wrapped (int_rem (signed 32 (low a)) (signed 32 (low b)))

abbrev pub word_remainder_unsigned : ℕ → ℕ → ℕ
word_remainder_unsigned a b =
    if low b == 0 then extended 32 (low a) else extended 32 (low a % low b)

-- ---- the lesser and the greater of two signed numbers of `bits` bits (ISA, 8.4)

abbrev pub lesser_signed : ℕ → ℕ → ℕ → ℕ
lesser_signed bits a b = if int_lt (signed bits b) (signed bits a) then b else a

abbrev pub greater_signed : ℕ → ℕ → ℕ → ℕ
greater_signed bits a b = if int_lt (signed bits a) (signed bits b) then b else a
