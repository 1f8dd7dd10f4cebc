-- The high parts of distances, by where they stand in what is kept of sections.
pub mod Highs
-- What the values of placed objects answer, and which relocations have none.
pub mod Values
