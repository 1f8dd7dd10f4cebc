-- Why no file with debug information is made.
pub mod Refused
-- What the code's own sections stand for.
pub mod Views
-- Programs and units with the line table of some rows of code.
pub mod Table
-- Numbers and instructions, whatever follows them.
pub mod Writing
-- What a name of the code stands for.
pub mod NameViews
