-- What the parser's types stand for.
pub mod View
-- What the readings of a cursor answer.
pub mod Left
-- The places of a statement from one of them on.
pub mod Slots
-- The names that a source has opened, as the code holds them.
pub mod Opened
-- The first byte past its line's limit, as a function.
pub mod Lines
-- Where the statements of a source begin.
pub mod Offsets
