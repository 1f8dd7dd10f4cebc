-- Where all stands once the linker has taken bytes out of code.

-- The symbols of an object of a source when the bytes of its sections move.
pub mod MovedLemmas
-- The sections of text of objects beside those of their sources in the linked program, before anything is taken out.
pub mod PiecesLemmas
-- The sections of text of the objects of sources are those of the sources.
pub mod PiecesOfLemmas
-- The object of a source whose paddings in code have shrunk to the least.
pub mod ShrunkLemmas
-- An object with the linker's moves made: its places have moved, its paddings are the least.
pub mod ShrinkingLemmas
-- Objects with the linker's moves made are linked to the same program.
pub mod ShrunkLinkLemmas
-- The statements of a section as the linker moves them: each stands where what is kept before it ends.
pub mod WalkLemmas
-- What is left of a section: its statements still follow one another, and have their bytes, sizes and relocations.
pub mod SteppedLemmas
-- A section of an object with the linker's moves made is that of its source, with the least paddings.
pub mod ShrunkSectionsLemmas
-- The objects of sources with the linker's moves made are those of the sources, with the least paddings.
pub mod ShrinksLemmas
