-- What the pieces of the code stand for.
pub mod Pieces
-- The table of the code: which names it has, and where.
pub mod Strings
