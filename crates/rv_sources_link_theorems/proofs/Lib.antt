-- What an assembled statement is beside that of its source: its place, its size, its code and the fields in it.
pub mod statements
-- Calls, whole and shortened: their code, in objects and in sources.
pub mod calls
-- Where all stands once the linker has taken bytes out of code.
pub mod moves
-- The sections and regions of objects are those of their sources.
pub mod sections
-- The fields that the linker fills take the values that the operands of the sources stand for.
pub mod fields
-- The names of objects, and what they mean, are those of their sources.
pub mod names
-- Collection drops of objects what it drops of their sources.
pub mod collected
-- The two files of the example: their objects and their program.
pub mod two_files
-- The program of the objects of sources, once relaxation is done, is the linked program of the sources.
pub mod RelaxedLemmas
-- The rows of a linked program have the sizes that the assembler found, but its calls and its alignments in code.
pub mod SizedLemmas
-- The linked program of the objects is that of the sources.
pub mod LinkedLemmas
-- The program of the objects of sources with their calls shortened is the linked program of the sources.
pub mod ShortensLemmas
-- The program of the objects of sources, without the sections that collection dropped.
pub mod JoinsLemmas
