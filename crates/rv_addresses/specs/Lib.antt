-- What is left of objects, as plain data.
pub mod Resolution
-- What a symbol means: a definition, as it has moved.
pub mod Meant
-- The symbols of an object of which calls are cut short, as the code has them.
pub mod Moved
-- That each reference has a meaning.
pub mod Resolved
-- The names that a map shows, by where the sections of objects stand.
pub mod Shown
-- That no name has two definitions has one proof at most, so that a struct can keep it.
pub mod Named
-- Where the symbols of objects stand, and how many bytes are left of each.
pub mod Extents
-- What is left of objects whose symbols stand where they end.
pub mod Ended
