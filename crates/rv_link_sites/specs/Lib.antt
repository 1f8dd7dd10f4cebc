-- The text in one line, section by section, as passes over objects go along it.
pub mod Line
-- The offsets that symbols name, by section.
pub mod Entries
-- What stands before and behind a relocation, among those of a section in the order of their places.
pub mod Between
-- The text of objects, as the code has it.
pub mod Text
-- The instructions of a call.
pub mod Spelled
