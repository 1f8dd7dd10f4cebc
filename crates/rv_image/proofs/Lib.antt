-- Tables of program headers: one more at the end, and what ends below an address.
pub mod ProgramsLemmas
-- What follows where a file has no fault.
pub mod LoadedLemmas
-- The segments of a file without a fault lie apart, and have the memory that their headers say.
pub mod ApartLemmas
-- What the tests of a whole file say.
pub mod WholeLemmas
-- Program headers that were written are read back.
pub mod PartsLemmas
-- The contents of the parts stand at their places.
pub mod ContentsLemmas
-- No test finds a fault in program headers that ascend beside the stack, whose contents stand in the file.
pub mod SoundLemmas
-- What is written is loaded again: the executable of a linked program has no fault.
pub mod LoadedAgainLemmas
