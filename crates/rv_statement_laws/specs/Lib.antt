-- The bytes of a value in data.
pub mod Widths
-- How long a source may be.
pub mod Limits
-- The sections that have a directive of their own.
pub mod Sections
-- What a statement says, as plain data.
pub mod Statement
