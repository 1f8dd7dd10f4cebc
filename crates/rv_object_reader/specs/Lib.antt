-- The relocations of each section that an object keeps, as the sections of its file have them.
pub mod Collected
-- What is looked up in a file once: its sections by their indices, and which of them an object keeps.
pub mod Found
-- The fields of a section of code, wherever they are kept.
pub mod Held
-- The strings of a table of names, which of them a map can show, and the names of a file's sections.
pub mod Names
-- The tests of a file before its sections: of its header, its type and its tables.
pub mod Opening
-- A row of the section `.rv.rows`, as the code has it and as the definitions of files have it.
pub mod Rows
-- The sections of a file from an index on, one section further.
pub mod SectionsFrom
-- What relocations hold of the bytes of a section of code: their paddings and their fields, as stretches of bytes.
pub mod Stretches
-- The tests of a section's header, by whether there are others of its kind before it.
pub mod Tests
-- What relocations in the sections before hold of each section.
pub mod Walk
