-- The sections and regions of objects are those of their sources.

-- The sections and the statements of a source of which collection dropped some sections: only their addresses are gone.
pub mod MaskedLemmas
-- The object of a source of which collection dropped some sections: as in rv_assemble_laws.
pub mod KeptLemmas
-- The objects of sources without the sections that collection dropped.
pub mod KeepingLemmas
-- The sections and the statements of an object of a source, one by the other.
pub mod FiledLemmas
-- The symbols of an object of a source stand at its statements.
pub mod StoodLemmas
-- The object of a source, whatever the sizes of its branches and calls are: as in rv_assemble_laws.
pub mod AssembledLemmas
-- A section of an object in the program: its bytes, its rows, and the sizes of its statements.
pub mod SectionsLemmas
-- A section of an object in the program: its bytes, its rows and the sizes of its statements.
pub mod PlacedLemmas
-- The regions of the program hold the sections of the sources.
pub mod RegionsLemmas
-- What linking the objects of sources makes of each file.
pub mod FilesLemmas
