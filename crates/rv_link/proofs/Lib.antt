-- Regions grow section by section.
pub mod GrowingLemmas
-- A section of the objects, and what is placed for it.
pub mod StandingLemmas
-- What is made of placed objects is their linked program.
pub mod LinksLemmas
-- What a turn of the loops over relocations and sections does.
pub mod StepsLemmas
-- What a turn of the loop over sections does to the regions.
pub mod TurnsLemmas
-- Why a link ends: what each pass says of it.
pub mod UnlinkedLemmas
-- What collection and relaxation leave of objects: as many, with the same names.
pub mod LeftLemmas
-- The regions and the gaps of placed objects have addresses.
pub mod KnownLemmas
-- The rows of placed objects can stand in a map.
pub mod NumberedLemmas
-- The global names of placed objects can stand in a map.
pub mod NamedLemmas
-- Where no run can begin, collection leaves no reference, and so no name without a meaning.
pub mod MissingLemmas
-- Relocations without a field: their value is 0, and nothing is written.
pub mod IdleLemmas
-- The ends of the symbols of what a plan leaves of objects are what relaxation leaves of their ends.
mod ExtentsLemmas
