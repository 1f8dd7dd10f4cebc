-- What is promised of the statements of a raw listing, and of their object.
pub mod Listed
-- What the statements of a raw listing stand for: the instruction of each line, by the parts of its code.
pub mod Meaning
-- What is built of a raw listing is the code that it lists: the same bytes from the same address on.
pub mod Reassembles
-- The statements that the lines of a raw listing are, by the instruction or the parcel of each.
pub mod Statements
