-- What a file with more behind it keeps of the executable in front, and what is new in its header.
pub mod GrownLemmas
-- A file with more behind it is loaded as the executable in front.
pub mod ImageLemmas
-- Tables of records that were written are read again.
pub mod RecordsLemmas
-- The symbols of names are found, with their names.
pub mod SymbolsLemmas
-- The tables of units that stand one after another.
pub mod LinesLemmas
-- Sections are found where the table of section headers says.
pub mod SectionsLemmas
-- A reader finds in a file with debug information what was written.
pub mod FoundLemmas
-- The lengths of a unit lead to what they say.
pub mod UnitLemmas
-- A name that is written is found again.
pub mod SourceLemmas
-- A file with the debug sections of objects is loaded as the executable in front.
pub mod CarriedLemmas
