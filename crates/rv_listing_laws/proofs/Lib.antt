-- The instruction at the front of bytes, by the relation and by a reader.
pub mod FrontsLemmas
-- The lines of code, one by one.
pub mod LinesOnLemmas
-- Rows have one order alone.
pub mod OrderedLemmas
