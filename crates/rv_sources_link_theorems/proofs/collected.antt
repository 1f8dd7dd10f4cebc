-- Collection drops of objects what it drops of their sources.

-- Objects have the sections with an address of their sources.
pub mod LoadedLemmas
-- Statements that have no rows yet, by their files and ordinals.
pub mod HereLemmas
-- What relocations name stands in the section of what their statements mean.
pub mod MeantLemmas
-- A run of objects begins in the section in which that of their sources begins.
pub mod BeginsLemmas
-- The names in the open fields of code are those of its operands.
pub mod NamedLemmas
-- The relocations of a statement name what the statement refers to.
pub mod EdgesLemmas
-- The relocations of a section lead where the statements of its source do.
pub mod SectionEdgesLemmas
-- Objects refer to sections as their sources do.
pub mod RefersLemmas
-- What collection drops of objects is what it drops of their sources.
pub mod DropsLemmas
