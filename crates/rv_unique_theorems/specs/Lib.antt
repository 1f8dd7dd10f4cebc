-- What the laws ask of objects.
pub mod Asked
-- That objects have one program, and one reason to be refused.
pub mod Same
