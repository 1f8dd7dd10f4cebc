-- Expressions by plain arithmetic on 64 bits: every name is a number, and nothing is kept open.
pub mod Plain
-- What the numbers of names have to do with what the names mean.
pub mod Agreement
-- Which expressions have a value: those that keep numbers, places and distances apart.
pub mod Forms
-- The value of an expression where its statement stands in the map, by plain arithmetic.
pub mod Sites
