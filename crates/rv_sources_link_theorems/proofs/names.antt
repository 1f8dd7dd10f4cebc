-- The names of objects, and what they mean, are those of their sources.

-- The definitions of an object for other files are those that its source exports.
pub mod ExportedLemmas
-- The definitions for all files of sources and of their objects, one by the other: what is shown of them.
pub mod PairLemmas
-- Lists whose elements stand one by the other.
pub mod PairedLemmas
-- The definitions of sources for all files and those of their objects follow one another alike.
pub mod MatchedLemmas
-- What names mean to all files is the same for sources and for their objects.
pub mod AlikeLemmas
-- A symbol of an object has the address of what its statement means by it.
pub mod KnownLemmas
-- A name that is a label is no assignment, so a label stands where its statement stands.
pub mod LabelsLemmas
-- The definitions of the objects for all files have the addresses of those of the sources.
pub mod GlobalsLemmas
-- The objects of sources, none of which moves any more, with their statements: what the law of names takes of them.
pub mod MadeLemmas
-- The map of the objects' program resolves the names of the sources.
pub mod JoinedLemmas
-- A run of the objects' program begins where that of the sources begins.
pub mod EntryLemmas
-- The program of the objects is flagged as compressed code where the sources have some.
pub mod FlaggedLemmas
