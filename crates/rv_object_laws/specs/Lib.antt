-- What the binding of a symbol says.
pub mod Bindings
-- An object as a plain value.
pub mod Object
-- Padding in code: instructions without effect.
pub mod Padding
-- What every object keeps of what a reader of files tests.
pub mod Valid
-- What every object keeps, said of a plain value: what a reader of files tests of it.
pub mod Whole
