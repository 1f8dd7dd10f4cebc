-- An alignment, and those behind it.
pub mod AlignmentsLemmas
-- What a greater power of two divides, a smaller one divides.
pub mod PowersLemmas
-- What calls are among the kinds of relocations, and what is left of them.
pub mod CallKindsLemmas
-- The changes of a section of text, as sites: which are calls, where they stand, and what is kept of them.
pub mod ChangesLemmas
-- Fields and paddings stay in their section and apart where calls are cut short.
pub mod FieldsLemmas
-- The walk along the sites of all objects, one after another, gives the objects of the definition.
pub mod LaidLemmas
-- The walk along the sites of objects gives the objects of the definition.
pub mod LineLemmas
-- Lists of relocations: what is in them, in which order, and what is counted.
pub mod ListsLemmas
-- Paddings stay in their section, at even offsets and apart from fields where calls are cut short.
pub mod PaddingsLemmas
-- What the walk along the sites makes of a section of text is what the definition says.
pub mod SectionsLemmas
-- What calls that are cut short do to offsets and to the count of bytes.
pub mod ShiftsLemmas
-- What a section keeps where calls are cut out of it.
pub mod ShortLemmas
-- What an object keeps where calls are cut out of its sections.
pub mod StaysLemmas
-- Objects of which nothing is cut are as they were.
pub mod UncutLemmas
-- The least multiple of an alignment, and the least alignment above a padding.
pub mod AlignedLemmas
-- The paddings of a section of code lie in it, apart from each other: so they stand in order.
pub mod ApartLemmas
-- What moves keep: how many bytes, and the fields that they do not meet.
pub mod FollowingLemmas
-- The paddings and fields of a section do not meet, so its fields lie in what is kept of it.
pub mod OrderedLemmas
