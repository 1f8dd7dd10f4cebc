-- A statement is added with its padding, or has a fault.
pub mod AddingLemmas
-- Alignments are no greater than 4096, and data no longer than a section can be.
pub mod BesideLemmas
-- The open fields of a statement's code, by the shapes and the bytes of its parts.
pub mod CodeFieldsLemmas
-- The sizes of a source's statements tell how long they are as code.
pub mod CodeLengthsLemmas
-- One statement more of the data so far.
pub mod DataSoFarLemmas
-- The draft of a source.
pub mod DraftedLemmas
-- The padding of an alignment in code has an even count of bytes.
pub mod EvensLemmas
-- Which section a statement stands in, and its faults there.
pub mod ExtentsLemmas
-- One value more of the open fields so far.
pub mod FieldsSoFarLemmas
-- The first compressed code of a source.
pub mod FirstCodeLemmas
-- A statement with its item is a laid statement: it has the bytes of its templates, and its size.
pub mod FittedLemmas
-- A section that grows.
pub mod GrowingLemmas
-- What sizes see of a source is what they can be found for.
pub mod InputLemmas
-- The item of a unit's statement at an index, and the bytes of each section after it.
pub mod ItemizedLemmas
-- What one more of a list gives.
pub mod JoinedLemmas
-- What is left of a list, from an element on.
pub mod LeftLemmas
-- How long the code of a statement is: two codes of one statement have as many bytes.
pub mod LengthsLemmas
-- The places that `.set` gives stand in data.
pub mod LocationsLemmas
-- Code that is one part has the field that its words and its bytes tell.
pub mod LoneLemmas
-- Each statement of a source has code in the bytes of its item.
pub mod MadeLemmas
-- The lengths of branches, jumps and calls: each may be asked for, and is below 256.
pub mod NearLemmas
-- A number in data has no field.
pub mod NumbersLemmas
-- Statements that name a parcel: two bytes, whatever their operands and the option.
pub mod ParcelLengthsLemmas
-- Along a source without faults each section has room for the statements that are left.
pub mod RoomsLemmas
-- In a source without faults each statement has a size, and its section has room for it.
pub mod RoomyLemmas
-- How long the code of a statement is: two codes of one statement have as many bytes.
pub mod SameLengthsLemmas
-- The sections of a source, with the laid statements of its statements.
pub mod SectionedLemmas
-- What branch sizes see of the statements of a source.
pub mod SeenLemmas
-- One item more.
pub mod SoFarItemsLemmas
-- One statement more of the code so far.
pub mod SoFarLemmas
-- The size of one item more.
pub mod SoFarSizedLemmas
-- In a source without faults no statement has one.
pub mod SoundLemmas
-- Where the statements of a unit stand.
pub mod StandingLemmas
-- The size of an item is that of its stretch of the section.
pub mod StretchedLemmas
-- What is taken from the end of a list that was reversed is next in that list.
pub mod TakenLemmas
-- The code of a whole source.
pub mod WholeLemmas
-- Values of data have 1, 2, 4 or 8 bytes.
pub mod WidthsLemmas
-- Statements whose words alone tell how long they are as code.
pub mod WordsLemmas
