-- Which sections of objects have an address, and to what they refer: each stands once among the input sections.
pub mod LoadedLemmas
-- How a walk goes on: by one more mark, or by one more section whose references are all marked.
pub mod WalkLemmas
-- Marks of sections: none, and one more.
pub mod RowsLemmas
-- What is dropped, file by file.
pub mod DropsLemmas
-- One part more of what is left.
pub mod LeftLemmas
