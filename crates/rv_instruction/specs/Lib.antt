-- The code of a statement, and the faults of one.
pub mod Code
-- Branches and jumps as their sizes see them, by what a scope and the places of statements tell.
pub mod Near
-- The open field of a part of a statement's code, as the code holds it.
pub mod Opened
-- What a scope gives the statement that is next.
pub mod Scoped
