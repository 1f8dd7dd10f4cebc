-- A written file has no fault.
pub mod FaultFreeLemmas
-- The written file of an object: its header, and its sections in four groups, each of which shows its pieces.
pub mod FiledLemmas
-- The sections that the parts of an object become, group by group, and what tests say of them.
pub mod GroupsLemmas
-- The header of a written file is read again, and no test of it or of the tables is true.
pub mod HeadingLemmas
-- Where the contents and the headers of a written file stand.
pub mod LaidLemmas
-- Searches of lists at whose elements a test has one answer; lists of tests.
pub mod ListsLemmas
-- Each section of a written file shows the piece that it was made of.
pub mod PlacedLemmas
-- The object of a written file is the object that was written.
pub mod ReadAgainLemmas
-- Rows that were written are read again, and tables of records; rv_elf has the same of its records.
pub mod RecordsLemmas
-- Relocations that were written are read again.
pub mod RelocatedLemmas
-- Sections that were written are read again.
pub mod SectionsReadLemmas
-- A name that is in a table of strings is read again at its offset.
pub mod StringsLemmas
-- Symbols and rows that were written are read again.
pub mod SymbolsReadLemmas
-- No test of a record that was written is true: relocations, symbols and rows.
pub mod TestedLemmas
