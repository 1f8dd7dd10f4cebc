-- The code of a statement: its base instructions, in their least bytes where no operand is open.
pub mod Coded
-- What the statements of a source are in an object: bytes with open fields left zero.
pub mod Templates
-- The fields of code that stay open, for the linker to fill.
pub mod CodeFields
-- The statements of a source where they stand in its object: their offsets, sizes and templates.
pub mod LaidStatements
-- The symbols of an object, in their order: local ones, those that the source makes global or weak.
pub mod Symbols
-- Names that a map can show.
pub mod ShownNames
-- The object of a source: what assembling is.
pub mod IsObjectOf
-- The faults of one instruction, by its operands and the values of their expressions.
pub mod InstructionFaults
-- Why a source is refused that reads well.
pub mod Refusals
-- The fields of a source that stay open, each at its place in its section.
pub mod Fields
-- How much the statements of a source are: no more than its text has room for.
pub mod Small
-- The first fault of a source.
pub mod FirstFault
