-- What regions hold, section by section.
pub mod Filled
-- Kinds of relocations without a field and a value.
pub mod Idle
-- Why fields do not take their values: the first relocation that fails.
pub mod Untaken
-- The program of placed objects.
pub mod Made
-- How far the regions of a program are filled.
pub mod Regions
-- The link of what relaxation leaves of objects.
pub mod Left
-- Where the link of objects puts their symbols, and how many bytes are left of each.
pub mod Extents
-- The extents of the symbols of what a plan leaves of objects.
pub mod PlannedExtents
