-- Memory as a program sees it: at each address a byte and its rights.
pub mod Memory
-- A hart between two instructions, and how a run ends.
pub mod Hart
-- What an instruction asks of the memory, and what comes of it.
pub mod Effect
-- Arithmetic on whole numbers below 2 ^ 64.
pub mod Arithmetic
-- Numbers as bytes, the lowest first.
pub mod Bytes
-- The halves of an address or a distance: what `lui` or `auipc` takes of it.
pub mod Halves
-- The meaning of each instruction, on whole numbers modulo 2 ^ 64.
pub mod Meaning
-- What no instruction changes.
pub mod Kept
-- What code spells, as a function: for each word and each parcel the one instruction that it spells, or none.
pub mod Reader
-- The run of a machine: the limit is tested, an instruction fetched and done, and so on.
pub mod Run
-- The platform that a program finds: the limits of memory.
pub mod Platform
-- The bytes of a console so far, and those after.
pub mod Console
-- The word of each instruction of RV64IMA: a table of formats and selectors, and one sum of fields a format.
pub mod Word
