-- The last token of a source.
pub mod MarksLemmas
