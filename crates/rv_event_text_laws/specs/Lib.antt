-- The line of an event: its parts in ASCII, a blank before each, numbers in hexadecimal.
pub mod EventLine
-- What events a machine has: the ranges of their numbers.
pub mod InRange
-- Events of a few instructions, whose words are those of GNU's assembler.
pub mod Worked
