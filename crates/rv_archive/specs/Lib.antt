-- How messages show the faults of archives.
pub mod Texts
-- What the code's own parts, members, entries and archives stand for.
pub mod View
