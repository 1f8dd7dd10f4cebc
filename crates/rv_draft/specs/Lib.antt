-- The code of a source as its statements add to it, one after the other.
pub mod Added
-- The bytes of code of each section.
pub mod Code
-- The instructions of a source as its code has them.
pub mod Coded
-- Which statements are code, as the code has them.
pub mod Compressed
-- What a statement holds: its code, the padding of an alignment in code, or data.
pub mod Contents
-- What the statements of a source contribute to sections of data: bytes, and fields that stay open.
pub mod DataParts
-- The draft of a source: its statements in their sections, the bytes of these, and the fields that stay open.
pub mod Draft
-- The statements of a source as items.
pub mod Items
-- How long the statements of a source are as code.
pub mod Lengths
-- The open field of code that is one part: of a branch or a jump that reaches, and of a call.
pub mod Lone
-- How many bytes each statement of a source has, and what sizes of branches see of it.
pub mod Measure
-- How many bytes one statement has, after others of its section.
pub mod Measured
-- The statements of a source with their items and their code.
pub mod Seated
-- The sizes of statements as their items have them, by the values of their expressions.
pub mod Sized
-- What a statement of data adds where it stands.
pub mod Spots
