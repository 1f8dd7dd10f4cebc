-- Sections are looked for one after another.
pub mod FirstLemmas
-- Relocations are applied one after another.
pub mod RelocatedLemmas
-- A step of a loop over merged sections.
pub mod StepLemmas
-- The parts of a file, one after another.
pub mod WritingLemmas
-- The section of an object among its parts.
pub mod PartLemmas
-- What is written anew behind some bytes and their padding.
pub mod PaddedLemmas
-- The names and references of sections, one after another.
pub mod NamesLemmas
