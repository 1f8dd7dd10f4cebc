-- What the code's own types stand for.
pub mod Views
-- The kinds of relocations whose fields take every value.
pub mod Kinds
-- Why no file is made, or memory has run out.
pub mod Refused
-- Numbers that are small enough for their fields.
pub mod Bounds
-- The symbols of an object, as its file has them.
pub mod Records
