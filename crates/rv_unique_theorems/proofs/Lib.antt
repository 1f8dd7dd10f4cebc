-- Input sections of objects, by their files and their indices there.
pub mod FoundLemmas
-- What holds of each file, with its object, holds of what its symbols define for all files.
pub mod ExportsLemmas
-- Sections that stand one behind another stand so in one way.
pub mod AgreedLemmas
-- What names and rows have by where loaded sections start.
pub mod AddressesLemmas
-- Values of relocations and bytes of sections by where loaded sections start.
pub mod ValuesLemmas
-- Where names have addresses, no reference is undefined.
pub mod MeantLemmas
-- Where no name stands twice, there is no first one that does.
pub mod DistinctLemmas
-- A run has an entry where `_start` means one.
pub mod EnteredLemmas
-- The parts of two programs of the same objects are the same.
pub mod ProgramLemmas
-- A relocation of one value is taken, or refused for one reason.
pub mod JudgedLemmas
-- Relocations that are refused, where sections stand as they do in a program.
pub mod UntakenLemmas
-- Objects that have a linked program are refused for want of memory alone.
pub mod RefusedLemmas
-- Objects are refused for one reason: the first test of a link that they fail.
pub mod ReasonsLemmas
-- Rows of objects of the code stand in sections that have addresses.
pub mod PlacedLemmas
-- The multiples at which sections of the text begin are even.
pub mod MultiplesLemmas
-- A run of objects of the code begins at an even address.
pub mod EvensLemmas
-- What relaxation leaves of objects is one list, and keeps of them what the laws ask.
pub mod LeftLemmas
-- What collection drops of objects is one list, and what it leaves keeps of them what the laws ask.
pub mod WithoutLemmas
-- What collection and relaxation leave of sound objects is sound.
pub mod LeftSoundLemmas
-- Programs of objects are links of what collection and relaxation leave of them, and refusals are its refusals.
pub mod WholeLemmas
-- The parcel that is chosen for an instruction is the only one.
mod ParcelsLemmas
-- The code of a statement in so many bytes is one.
mod OneCodeLemmas
-- The least sizes of the code of a source are one family.
mod CodeSizesLemmas
-- Two lists of statements, one by one, and those of each section.
mod PairsLemmas
-- What an object says of the statements of its source: the sizes of their code, which are the least.
mod SaidLemmas
-- The sizes of the statements of a source are one family: those of code as the least that reach.
mod OneSizeLemmas
-- The statements of two objects of one source: they differ at most in what neither object keeps.
mod RecodedLemmas
-- So both objects have one table of symbols.
mod OneTableLemmas
-- How many elements of a list pass a test.
mod CountsLemmas
-- No name of a source is defined by two statements.
mod OneDefinitionLemmas
-- No two symbols of a source have one name and one place.
mod LoneSymbolsLemmas
-- A reference has one symbol.
mod OneNumberLemmas
-- The statements of a source have one object.
mod OneObjectLemmas
-- An object of a source has few sections, and those of code are short.
mod SmallLemmas
-- Where statements have an object, no section of code is too long.
mod NotTooLongLemmas
-- Statements are refused for one fault.
mod OneFaultLemmas
-- The names of an object's symbols weigh no more than the source's statements and what they say.
mod SymbolWeightsLemmas
-- The object of a source has a file.
mod FileRoomLemmas
