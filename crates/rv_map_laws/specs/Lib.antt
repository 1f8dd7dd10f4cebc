-- The names that every file can mean, as a map shows them, and those that the linker gives.
pub mod Globals
-- The maps that have a text: what their numbers and names are.
pub mod Limits
-- The row of an address.
pub mod Lookup
-- A map as a plain value: what clauses speak of, with a list where the program keeps a vector.
pub mod Map
-- The names that a map can show.
pub mod Name
-- The region of memory to which a section goes, by its flags ALLOC.
pub mod Regions
-- The text of a map: lines of words, addresses in hexadecimal and other numbers in decimal.
pub mod Text
