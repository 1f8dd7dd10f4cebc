-- What the tables hold while a pass goes over the statements: each statement's start, or what is left from it on.
pub mod Passes
-- Statements in little memory: those of one form by their section and bytes.
pub mod Items
