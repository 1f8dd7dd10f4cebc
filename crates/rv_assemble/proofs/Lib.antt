-- What holds of each statement of a source without faults: it stands in one of the source's sections.
pub mod SettledLemmas
-- The open fields of a source, section by section, are the relocations of its sections.
pub mod FieldListsLemmas
-- The alignment of each section of a source is a power of two, from 1 to 4096.
pub mod AlignmentsLemmas
-- The room that a padding in code has: an even count of bytes, 4094 at most, all of them instructions without effect.
pub mod RoomLemmas
-- The open fields of a statement lie in its bytes, part by part; a padding is all of its part.
pub mod CodeFitsLemmas
-- The symbols of a value are names of its expression that mean a place.
pub mod ValueSymbolsLemmas
-- The symbols that relocations name are names that a map can show, or have a definition in their file.
pub mod UsesKnownLemmas
-- No section of a source is that of the rows.
pub mod NamesKeptLemmas
-- Sections of code end at even offsets.
pub mod EvenCodeLemmas
-- The relocations of a section lie in its bytes, and its paddings are apart from all others.
pub mod FieldsInsideLemmas
-- Each relocation of a section names one of the symbols, and each symbol stands in one of the sections.
pub mod IndexedLemmas
-- No source that reads well opens the section of the rows.
pub mod OpenedKeptLemmas
-- One field more of the relocations so far, and one section more of the sections.
pub mod ListsSoFarLemmas
-- One index more of the indices so far.
pub mod IndicesSoFarLemmas
-- The object that is made of a source's draft and symbols is that of its statements.
pub mod ComposedLemmas
-- One section more of the sections so far.
pub mod SectionsSoFarLemmas
-- The fields of a draft as the symbols that its source's relocations name.
pub mod UsesLemmas
-- What a unit's draft and symbols make, as the code has them.
pub mod JoiningLemmas
-- What holds of the statements that a text reads as holds of the text.
pub mod RefusedLemmas
-- Statements with their ordinals as their lines have the faults that they have at their own lines.
pub mod OrdinalsLemmas
-- Statements that get their ordinals as their lines, one by one.
pub mod NumberingLemmas
-- The statement that is at fault, by the ordinal that is told for its line.
pub mod PlacedLemmas
-- The rows of items, from the back.
mod RowsFromLemmas
