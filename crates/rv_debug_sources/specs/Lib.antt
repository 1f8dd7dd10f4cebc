-- Numbers of any size as operands of `.byte`: seven seven_bits a byte, the low ones first.
pub mod Leb128
-- Lines that a source says of its code, by the tokens of its statements.
pub mod Lines
-- The line table of what a source says of lines, as statements behind its last one: a unit of DWARF 5.
pub mod LineText
-- How a source is changed, so that what sections without the flag `a` refer to is kept.
pub mod Sources
-- Objects and files in which a section is loaded only if it is in the object of the source itself.
pub mod Unloaded
-- What the reader has found, and what it will find.
pub mod Reading
