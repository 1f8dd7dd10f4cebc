-- Which symbol a name means in all files.
pub mod Chosen
-- The tables of the code: what they answer.
pub mod Names
