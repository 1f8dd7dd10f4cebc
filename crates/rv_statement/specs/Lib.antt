-- What the statements of the code stand for.
pub mod View
-- Statements in few bytes: what a record says of its source.
pub mod Records
-- The statements of a source, as they are kept.
pub mod Statements
