-- The lists of relocations, one for each kept section, as the sections of the file are gone through.
pub mod CollectingLemmas
-- Contents, names and alignments of a section that has passed its tests.
pub mod ContentsLemmas
-- Stretches in a map: those found by its order, and one more.
pub mod EntriesLemmas
-- Lists of tests of which none is true.
pub mod FirstTrueLemmas
-- The relocations of a section that has passed its tests.
pub mod GoodRelocationsLemmas
-- The kept sections of a file, by their indices.
pub mod KeptLemmas
-- The places of sections among those that an object keeps.
pub mod KeptSectionsLemmas
-- The kind of a number is the one kind with that number.
pub mod KindNumbersLemmas
-- Records of a table, made one after the other; and what is found in a file.
pub mod MadeLemmas
-- Which relocations meet one that comes after them, by the stretches that they hold.
pub mod MeetingLemmas
-- Numbers of a record that is cut out of its section.
pub mod NumbersLemmas
-- The tests of a file before its sections, and all of them.
pub mod OpeningLemmas
-- The positions of bytes that pass a test: they rise, and a search by halves finds the first from an offset on.
pub mod PositionsLemmas
-- The records of a section, one after the other, and their tests.
pub mod RecordsLemmas
-- Records of relocations, one after the other.
pub mod RelasLemmas
-- Relocations one after the other: what has been looked at, and what is left.
pub mod RelocationStepsLemmas
-- The sections of a file, by their indices.
pub mod SectionsFromLemmas
-- Where the last string of a table ends, and which strings a map can show.
pub mod ShownStringsLemmas
-- The string at an offset, by where the first zero byte stands from there on; and the names of sections.
pub mod StringsLemmas
-- A file without a fault has one symbol table at most.
pub mod SymbolCountLemmas
-- Symbols: their records, and their names.
pub mod SymbolFieldsLemmas
-- The tables of a file without a fault.
pub mod TablesLemmas
-- A kept section of a file without a fault is a section of an object.
pub mod ValidSectionsLemmas
-- Symbols and rows of a file without a fault are those of an object.
pub mod ValidSymbolsLemmas
-- What the sections of a file have passed where no test is true.
pub mod WalkLemmas
-- Over the sections of a file, one after the other.
pub mod WalkingLemmas
-- The object of a file without a fault.
pub mod WholeLemmas
