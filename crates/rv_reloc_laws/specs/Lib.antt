-- What each kind of relocation makes of its field.
pub mod Fields
-- An instruction with another operand: what a relocated value makes of it, by its format.
pub mod Operands
-- Which values the field of each kind of relocation can hold.
pub mod Ranges
-- The value of each kind of relocation.
pub mod Values
