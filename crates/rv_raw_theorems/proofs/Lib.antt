-- The branches of a raw listing have four bytes, and so have the jumps that keep no return address.
pub mod BranchesLemmas
-- How far `.` and a distance lead.
pub mod DistancesLemmas
-- A run of a raw listing's object can begin, at an even address.
pub mod EntriesLemmas
-- What the expressions of a raw listing are worth to its instructions: numbers, and the address of `.` with a distance.
pub mod ExpressionValuesLemmas
-- A raw listing has no fault.
pub mod FaultsLemmas
-- The relocations of a raw listing's object: each leads from its place by a distance that its field takes.
pub mod FieldsLemmas
-- The statement of a parcel names the form from which it was written.
pub mod FormsLemmas
-- The lines of a raw listing that are no instructions: its options, its global, and the label of its entry.
pub mod HeaderLemmas
-- The statements of a raw listing as branch sizes see them: each has its smallest size.
pub mod ItemsLemmas
-- Collection and relaxation leave a raw listing's object as it is: its one section is the entry's.
pub mod LeavesLemmas
-- How long the code of a raw listing is.
pub mod LengthsLemmas
-- Lexemes of a line: what they are cut from, and their tokens.
pub mod LexemesLemmas
-- Lines, each of them a statement, read as these statements.
pub mod LinesLemmas
-- What is linked of a raw listing's statements has the bytes of its instructions, and begins where its entry stands.
pub mod LinkedBytesLemmas
-- All lines of a raw listing are its statements.
pub mod ListingLemmas
-- A section of code without paddings, alone in its object, stands at the start of the text as it is.
pub mod LoneSectionLemmas
-- The code of a raw listing's statements is the instructions from which they were written.
pub mod MeaningLemmas
-- No name of a raw listing's object is defined twice or left without a meaning.
pub mod NamedOnceLemmas
-- The names of registers and of mnemonics are words that a source reads back.
pub mod NamesLemmas
-- The text of a number is a lexeme, with the number as its value.
pub mod NumbersLemmas
-- What the object of a raw listing is: one section, of so many bytes as its instructions have.
pub mod ObjectsLemmas
-- A statement of one part: its one line, and the bytes of that.
pub mod OnePartLemmas
-- What the statement of each instruction of a raw listing is to the assembler: its operands are in range.
pub mod OperandRangesLemmas
-- Operands of a line: the lexemes of each, and what their tokens are in a place.
pub mod OperandsLemmas
-- Each line of a parcel is one statement: by its form.
pub mod ParcelsLemmas
-- The values of printed numbers and distances.
pub mod PrintedValuesLemmas
-- A raw listing's object is refused for want of memory alone.
pub mod ProgramsLemmas
-- A raw listing as steps, and the law.
pub mod ReassemblyLemmas
-- A raw listing's object has room: it has no paddings, and its bytes end below the stack.
pub mod RoomLemmas
-- A branch to `.` and a distance in its range has four bytes: all together have their smallest sizes.
pub mod SizesLemmas
-- Where the statements of a raw listing stand: three directives, and then instructions and labels.
pub mod StatementPlacesLemmas
-- The statements of a raw listing where they stand: in one section of code, without compression, with one label.
pub mod StatementsLemmas
-- The instructions of a raw listing and the place of its entry: their statements.
pub mod StepsLemmas
-- The symbols of a raw listing's object: one of them is for all files, the entry, at an even place of its code.
pub mod SymbolsLemmas
-- The field of each relocation of a raw listing's object takes its value.
pub mod TakenLemmas
-- The code of a raw listing is not too long: each statement has eight bytes at most.
pub mod TooLongLemmas
-- Each line of a raw listing is one statement: by its format.
pub mod WordsLemmas
-- The statement of a word or a parcel is written by that word or parcel.
pub mod WrittenCodesLemmas
