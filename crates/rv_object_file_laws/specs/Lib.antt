-- Why a file is no object: tests in order, the first that is true gives the fault.
pub mod FirstFault
-- What an object of the code keeps: what a reader of files tests, and the widths of its numbers.
pub mod Known
-- The object of a file.
pub mod ObjectOf
-- What the sections of an object's file are.
pub mod Parts
-- The records of the section `.rv.rows`, of 32 bytes: where a statement of the source stands.
pub mod Rows
-- The file of an object: the header; the contents of the sections, each at a multiple of 8; and the section headers.
pub mod Written
