-- What is dropped of a file, by the marks of its sections.
pub mod Drops
-- The marks of sections that the code keeps, and what is dropped by them.
pub mod Marks
-- The walk from the entry to all that stays.
pub mod Walk
-- Where the relocations of a file lead.
pub mod Targets
