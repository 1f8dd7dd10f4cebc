-- Sections as keys, and lists of them.
pub mod SectionsLemmas
-- Marking, in any order, ends at the one least closed set.
pub mod MarksLemmas
