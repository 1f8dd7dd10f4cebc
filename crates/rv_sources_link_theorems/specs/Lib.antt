-- Two files, worked by hand: references across them, a local name that both have, a section of notes.
pub mod TwoFiles
-- What joins the contracts of the assembler and the linker.
pub mod Joins
