-- That texts are built as the files of their objects are linked: from the laws of each part.
pub mod AgreedLemmas
-- One object for each of a list of texts or files, and the first of them that has none.
pub mod EachLemmas
-- The objects in files, and why files are not linked.
pub mod FilesLemmas
-- The objects of texts, one after another, and the statements of all of them.
pub mod GatheredLemmas
-- The executable of a linked program keeps the headline's promise.
pub mod HeadlinedLemmas
-- Why objects are not linked: they are past the limits, or have no program.
pub mod ReasonsLemmas
-- The listing of the executable of a linked program is that of its sources.
pub mod ShownLemmas
-- The object of statements keeps what every object of the code keeps.
pub mod SoundLemmas
-- The objects of sources, and why sources are refused.
pub mod SourcesLemmas
-- Files whose objects are read one after another, up to the first with a fault.
pub mod UnreadLemmas
-- What is written of a link, with the names and the rows of its map or without.
pub mod WrittenLemmas
-- That the executable of a raw listing has the code that it lists.
pub mod ReassembledLemmas
-- That a build refuses a raw listing for nothing but its length and want of memory.
pub mod AcceptedLemmas
