-- The last digit of a number in hexadecimal.
pub mod HexadecimalLemmas
-- Where a byte or a front ends, by what the searches say.
pub mod CuttingLemmas
-- The digits of a base, byte by byte.
pub mod DigitsLemmas
-- A number is what its digits say, and its digits are the only ones that say it.
pub mod NumbersLemmas
-- A line that was written is read again, whatever follows it.
pub mod LinesLemmas
-- A text is one map's alone.
pub mod WholeLemmas
-- One step of each loop that writes, and its end.
pub mod StepsLemmas
