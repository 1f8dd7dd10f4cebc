-- The numbers in a map's text, read.
pub mod Numeral
-- A map's text from left to right: each part at the front of the bytes, with what follows it.
pub mod Reading
-- What the code's own map stands for.
pub mod Views
