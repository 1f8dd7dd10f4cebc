-- The rights and the widths that a memory is asked for.
pub mod Rights
-- The memory that segments make.
pub mod Flat
-- The memory that the code keeps, as data.
pub mod Held
-- Addresses at which an access needs no search.
pub mod Stretches
-- Where accesses look before they search, and what a memory of pages knows of its segments.
pub mod Quick
-- The list of pages by which the bytes of segments are found.
pub mod Pages
-- The lower part of the stack before anything is written there: zeros that no segment has yet.
pub mod Unmade
-- The memory that pages in the code keep, as data.
pub mod HeldPages
