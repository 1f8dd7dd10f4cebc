-- The statements of the sources where they stand, and which of them have a row in the map.
pub mod Located
-- Which statements are compressed code, and whether sources have any.
pub mod Compressed
-- The names that statements define, and which of them other files can mean.
pub mod Exports
-- The statements of the sources where they stand in the map, what their names mean to all files.
pub mod Program
-- How many bytes the branches of a source have: the least that reach.
pub mod Sizes
-- The base instructions that stand for a statement at its row, with the numbers of its operands.
pub mod Lines
-- The one base instruction that a statement spells by its mnemonic and its registers.
pub mod Holes
-- What a statement does in one step, and how many instructions that counts.
pub mod Meaning
-- The map fits the sources: which rows it has, how large each is, and where each stands.
pub mod Fits
-- The statements of each file have the least sizes.
pub mod Sized
-- The calls of sources after relaxation: which may be shortened, and that those are short that can be.
pub mod Shortened
-- Which sections of sources collection drops: those to which nothing leads from the section where a run begins.
pub mod Collected
-- The names of a map: which it shows, and where a run begins.
pub mod Resolves
-- Memory at the start of a source run: what the data statements spell at their rows, and the rights of the regions.
pub mod Start
-- The source run: each statement is one step, at the addresses of the map.
pub mod SourceRun
