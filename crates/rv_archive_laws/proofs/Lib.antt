-- That a file is read in one way: each step of a walk from part to part is determined.
mod OneReadingLemmas
-- That a link takes its objects in one way: each step is determined.
pub mod OneSelectionLemmas
