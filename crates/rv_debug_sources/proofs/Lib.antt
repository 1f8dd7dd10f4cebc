-- The headers of a file, one after another.
pub mod HeadersLemmas
-- The text of a number, byte after byte.
pub mod Leb128Lemmas
-- A source with its edits, one after another.
pub mod EditsLemmas
-- Rows, directories and files, one after another.
pub mod LinesLemmas
