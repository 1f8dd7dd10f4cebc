-- The parts of a text that lose bytes, in the order in which they stand, and what is dropped of them before an offset.
pub mod Pieces
-- Calls that are cut short.
pub mod Cut
-- The bytes that are left of a section, while they are taken from the front.
pub mod Bytes
-- What a section stands for of which calls are cut short.
pub mod Sections
-- What an object stands for of which calls are cut short.
pub mod View
-- What relaxation cuts of the sections of objects, by file and section.
pub mod Cuts
-- The cut of a site.
pub mod SiteCuts
