-- Rows of an object, less what is cut of its calls.
pub mod Moved
-- When sections stand where the layout of objects puts them.
pub mod Placement
-- Sections one after another, as a pass over them places those that go to a region.
pub mod Walk
-- What a fault of the places is to a link.
pub mod Fault
