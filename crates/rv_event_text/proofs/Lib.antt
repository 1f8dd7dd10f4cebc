-- Digits that are written from the last to the first.
pub mod DigitsLemmas
-- Bytes in two digits each, one after the other.
pub mod MovedLemmas
-- An end's name, and the number behind it.
pub mod EndsLemmas
-- Lines that are kept, and written.
pub mod WrittenLemmas
-- The parts of a line, one added after the other.
pub mod LinesLemmas
