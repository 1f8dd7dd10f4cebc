-- The addresses of statements, the statements at places, what is said of names and the last of each.
pub mod Indices
-- What the code's own names stand for.
pub mod Known
