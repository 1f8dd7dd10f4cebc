-- The multiple at which a section begins, by its relocations in any order.
pub mod Alignments
-- What the parts of an object stand for.
pub mod Parts
-- What a place of the code stands for.
pub mod Places
-- What a section of the code stands for.
pub mod Sections
-- What an object of the code stands for.
pub mod View
